-- Components of a network in which some are the caller's own.
use Rattle.std.specs.Prelude.{◌≡◌, ℕ, Bool, true, false, List, Option, Some, None}
use Rattle.flow_packet.specs.Held.{Held}
use Rattle.flow_component.specs.declared.Answer.{Answer}
use Rattle.flow_component.specs.declared.Shape.{Shape}
use Rattle.flow_component.specs.Laws.{Rules, Outcome}
use Rattle.flow_component.specs.Outcomes.{outcome_as}
use Rattle.flow_own.specs.declared.mixed.Mix.{Mix}
use Rattle.flow_own.specs.declared.mixed.Mix.TheVariants as mixes
use Rattle.flow_own.specs.declared.sorted.Sorted.{Sorted}
use Rattle.flow_own.specs.declared.sorted.Sorted.TheVariants as sorts
use Rattle.flow_own.specs.declared.tape.Entry.{Entry}
use Rattle.flow_own.specs.Recorded.{IsTapeWritable}
use Rattle.flow_own.specs.Tapes.{OwnValue, own_state, own_told, own_uses, OwnReady, OwnNext}

-- A component of the caller's own, or another.
pub data Mixed (K : Type 0) : Type 0 where
  Other : (component : K) → Mixed K
  Own : (own : OwnValue) → Mixed K

-- Each comes to what it would come to by itself.
abbrev pub MixedNext : {K : Type 0} → Rules K → Mixed K → Held → Answer → Outcome (Mixed K) → Type 0
MixedNext {K} rules (Other component) held answer outcome = (o : Outcome K) × rules.next component held answer o × (outcome ≡ outcome_as Other o)
MixedNext rules (Own own) held answer outcome = (o : Outcome OwnValue) × OwnNext own held answer o × (outcome ≡ outcome_as Own o)

-- How many inputs and outputs it has.
abbrev pub mixed_shape : {K : Type 0} → Rules K → Mixed K → Shape
mixed_shape rules (Other component) = rules.shape component
mixed_shape rules (Own own) = own.shape

-- Which outputs it uses.
abbrev pub mixed_uses : {K : Type 0} → Rules K → Mixed K → ℕ → Bool
mixed_uses rules (Other component) = rules.uses component
mixed_uses rules (Own own) = own_uses own

-- Its state.
abbrev pub mixed_state : {K : Type 0} → (K → K) → Mixed K → Mixed K
mixed_state state_of (Other component) = Other (state_of component)
mixed_state state_of (Own own) = Own (own_state own)

-- It was told its end.
abbrev pub mixed_told : {K : Type 0} → (K → Bool) → Mixed K → Bool
mixed_told told_end (Other component) = told_end component
mixed_told told_end (Own own) = own_told own

-- It is ready for the answer, with these hands.
abbrev pub MixedReady : {K : Type 0} → Rules K → Mixed K → Held → Answer → Type 0
MixedReady rules (Other component) held answer = rules.ready component held answer
MixedReady rules (Own own) held answer = OwnReady own held answer

-- All that a network knows of it.
abbrev pub mixed_rules : {K : Type 0} → Rules K → Rules (Mixed K)
mixed_rules rules = record { shape = mixed_shape rules; uses = mixed_uses rules; ready = MixedReady rules; next = MixedNext rules }

-- The component that a value of the program's type is.
abbrev pub mixed_of : {K P : Type 0} → Mix K P → Mixed K
mixed_of (mixes.Other component) = Other component
mixed_of (mixes.Own own) = Own own

-- It isn't the caller's own.
abbrev pub is_other : {K : Type 0} → Mixed K → Bool
is_other (Other component) = true
is_other (Own own) = false

-- The tape of a component of the caller's own; no other has one.
abbrev pub tape_in : {K : Type 0} → Mixed K → Option (List Entry)
tape_in (Other component) = None
tape_in (Own own) = Some own.tape

-- Where it is the caller's own and no player, its tape has a place in a file.
abbrev pub IsRecordedIn : {K : Type 0} → Mixed K → Type 0
IsRecordedIn (Other component) = Unit {0}
IsRecordedIn (Own own) = own.place ≡ None → IsTapeWritable own.tape

-- The one that there is of a network without components of the caller's own or with some, which have the same values.
abbrev pub of_either : {T : Type 0} → Sorted T T → T
of_either (sorts.Unmixed value) = value
of_either (sorts.Mixed value) = value
