-- The rules of components of a network in which each component of the caller's own is a player.
use Rattle.std.specs.Prelude.{◌≡◌, ℕ, List, Option, Some, None, IsSome}
use Rattle.flow_packet.specs.Held.{Held}
use Rattle.flow_component.specs.declared.Answer.{Answer}
use Rattle.flow_component.specs.declared.Shape.{Shape}
use Rattle.flow_component.specs.Laws.{Rules, Outcome, AtMostOneOutcome}
use Rattle.flow_own.specs.declared.tape.Entry.{Entry}
use Rattle.flow_own.specs.Tapes.{OwnValue}
use Rattle.flow_own.specs.Mixed.{Mixed, Other, Own, MixedReady, MixedNext, mixed_shape, mixed_uses}

-- A component of the caller's own is a player: it is no live part, and has a place on its tape.
pub record IsPlayer (own : OwnValue) : Type 0 where
  pub unmanned : own.part ≡ None
  pub placed : IsSome own.place

-- A component that is the caller's own is a player.
abbrev pub IsPlayed : {K : Type 0} → Mixed K → Type 0
IsPlayed (Other component) = Unit {0}
IsPlayed (Own own) = IsPlayer own

-- It is ready for the answer, with these hands: only a player is, among those of the caller's own.
abbrev pub PlayedReady : {K : Type 0} → Rules K → Mixed K → Held → Answer → Type 0
PlayedReady rules component held answer = IsPlayed component × MixedReady rules component held answer

-- It comes to what it would come to by itself: only a player comes to anything, among those of the caller's own.
abbrev pub PlayedNext : {K : Type 0} → Rules K → Mixed K → Held → Answer → Outcome (Mixed K) → Type 0
PlayedNext rules component held answer outcome = IsPlayed component × MixedNext rules component held answer outcome

-- All that a network knows of it.
abbrev pub played_rules : {K : Type 0} → Rules K → Rules (Mixed K)
played_rules rules = record { shape = mixed_shape rules; uses = mixed_uses rules; ready = PlayedReady rules; next = PlayedNext rules }

-- The player of a tape, before its first entry.
abbrev pub player : List Entry → Shape → List ℕ → OwnValue
player tape shape used = record { part = None; place = Some 0; tape = tape; shape = shape; used = used }

-- The same as a component.
abbrev pub playing : {K : Type 0} → List Entry → Shape → List ℕ → Mixed K
playing tape shape used = Own (player tape shape used)

-- The component, where it isn't the caller's own.
abbrev pub other_of : {K : Type 0} → Mixed K → Option K
other_of (Other component) = Some component
other_of (Own own) = None

-- Players come to one outcome where all other components do.
abbrev pub PlayersAreFunctions : {K : Type 0} → Rules K → Type 0
PlayersAreFunctions rules = AtMostOneOutcome rules → AtMostOneOutcome (played_rules rules)
