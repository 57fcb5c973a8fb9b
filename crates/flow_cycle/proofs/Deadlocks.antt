-- Each deadlock that a schedule reaches from a start has its one waiting cycle.
use Rattle.std.proofs.Common.{◌≡◌, ◌⊎◌, ℕ, ◌+◌, ◌<◌, Bool, true, false, List, [], ◌∷◌, length, Option, Some, None, IsSome, refl, sym, ap, ◌∙◌, subst, nat_eq, arith, inl, inr, slice_get, get_or}
use Rattle.std.specs.Prelude.{option_map, option_and_then, is_some, position}
use Rattle.std.proofs.lemmas.List.Quantifiers.{position-Some}
use Rattle.std.proofs.lemmas.Map.Keys.{IsDistinct-from_apart}
use Rattle.std.proofs.lemmas.Option.{get_or_from_slice_get, slice_get_within}
use Rattle.flow_packet.proofs.Trees.{position-None}
use Rattle.flow_component.specs.Laws.{Rules, Lawful}
use Rattle.flow_plan.specs.Network.{Network as Plan}
use Rattle.flow_plan.specs.declared.plan.Sender.{Sender}
use Rattle.flow_plan.specs.declared.plan.Connection.{Connection as PlanConnection}
use Rattle.flow_model.specs.declared.Stage.{Stage}
use Rattle.flow_model.specs.declared.Stage.TheVariants as stages
use Rattle.flow_model.specs.declared.Block.{Block}
use Rattle.flow_model.specs.declared.Block.TheVariants as blocks
use Rattle.flow_model.specs.States.{Input, From, Text, Process, Channel, Kept, State}
use Rattle.flow_model.specs.Events.{looks}
use Rattle.flow_model.specs.Schedules.{Journal, Leads}
use Rattle.flow_model.specs.Verdicts.{block_of, block, IsDeadlock}
use Rattle.flow_model.specs.Plans.{start_of, StartsWell}
use Rattle.flow_model.proofs.Lists.{get-there}
use Rattle.flow_machine.specs.Inlets.{watched}
use Rattle.flow_cycle.specs.declared.Waits.{Waits}
use Rattle.flow_cycle.specs.Waiting.{first_open_sender, waits_for_sender, waits_for_receiver, or_else, waits_to_wake, waits_by, waits_of, waits_at, lowest_blocked, IsWaitingCycle}
use Rattle.flow_cycle.specs.Laws.{BlockedOnBlocked, HasOneWaitingCycle, DeadlocksWait}
use Rattle.flow_cycle.proofs.Blocked.{one-of, blocked, blocked-waits}
use Rattle.flow_cycle.proofs.Walking.{Found, walks, one-cycle}

-- Who waits is whom it is said of.

-- Who waits for a sender is the process of which it was asked.
pub sender-named : (p c : ℕ) (found : Option Sender) (w : Waits) → option_map (waits_for_sender p c) found ≡ Some w → w.process ≡ p
sender-named p c (Some sender) w is = ap (λ (v : Waits). v.process) (sym (one-of (waits_for_sender p c sender) w is))
sender-named p c None w is = absurd (cc)

-- Who waits for a receiver is the process of which it was asked.
pub receiver-named : (p c : ℕ) (found : Option PlanConnection) (w : Waits) → option_map (waits_for_receiver p c) found ≡ Some w → w.process ≡ p
receiver-named p c (Some connection) w is = ap (λ (v : Waits). v.process) (sym (one-of (waits_for_receiver p c connection) w is))
receiver-named p c None w is = absurd (cc)

wake-named : (channels : List Channel) (p : ℕ) (inputs : List Input) (w : Waits) → waits_to_wake channels p inputs ≡ Some w → w.process ≡ p
wake-named channels p [] w is = absurd (cc)
wake-named channels p (Text text ∷ inputs) w is = wake-named channels p inputs w is
wake-named channels p (From c ∷ inputs) w is = by (option_map (waits_for_sender p c) (first_open_sender (slice_get channels c))) refl is (wake-named channels p inputs w)
  where
    by : (found : Option Waits) → option_map (waits_for_sender p c) (first_open_sender (slice_get channels c)) ≡ found → or_else found (waits_to_wake channels p inputs) ≡ Some w → (waits_to_wake channels p inputs ≡ Some w → w.process ≡ p) → w.process ≡ p
    by (Some v) at is rest = sender-named p c (first_open_sender (slice_get channels c)) w (at ∙ is)
    by None at is rest = rest is

by-named : {K : Type 0} (plan : Plan) (channels : List Channel) (p : ℕ) (x : Process K) (b : Block) (w : Waits) → waits_by plan channels p x b ≡ Some w → w.process ≡ p
by-named plan channels p x (blocks.Full c port) w is = receiver-named p c (slice_get plan.connections c) w is
by-named plan channels p x (blocks.Empty c port) w is = sender-named p c (first_open_sender (slice_get channels c)) w is
by-named plan channels p x blocks.Dormant w is = wake-named channels p (watched (looks channels) x) w is

-- Whoever waits is the process that it is said of.
pub waits-named : {K : Type 0} (plan : Plan) (kept : Kept K) (p : ℕ) (w : Waits) → waits_at plan kept p ≡ Some w → w.process ≡ p
waits-named {K} plan kept p w is = by (slice_get kept.processes p) is
  where
    of : (x : Process K) (found : Option Block) → option_and_then (waits_by plan kept.channels p x) found ≡ Some w → w.process ≡ p
    of x (Some b) is = by-named plan kept.channels p x b w is
    of x None is = absurd (cc)

    by : (found : Option (Process K)) → option_and_then (waits_of plan kept.channels p) found ≡ Some w → w.process ≡ p
    by (Some x) is = of x (block_of (looks kept.channels) x) is
    by None is = absurd (cc)

-- What is blocked is there.
pub block-below : {K : Type 0} (kept : Kept K) (p : ℕ) → IsSome (block kept p) → p < length kept.processes
block-below {K} kept p some = by (slice_get kept.processes p) refl some
  where
    by : (found : Option (Process K)) → slice_get kept.processes p ≡ found → IsSome (option_and_then (block_of (looks kept.channels)) found) → p < length kept.processes
    by (Some x) there some = slice_get_within kept.processes p x there
    by None there some = absurd (cc)

-- A thing that is there passes the test of it.
pub some-true : {A : Type 0} (found : Option A) → IsSome found → is_some found ≡ true
some-true (Some x) some = refl
some-true None some = absurd (cc)

true-some : {A : Type 0} (found : Option A) → is_some found ≡ true → IsSome found
true-some (Some x) is = refl
true-some None is = absurd (cc)

-- A process has ended or it hasn't.
pub ended-or : (stage : Stage) → (stage ≡ stages.Ended) ⊎ (stage ≡ stages.Ended → ⊥)
ended-or stages.Ended = inl refl
ended-or stage = inr (λ h. cc)

module _ {K : Type 0} (rules : Rules K) (lawful : Lawful rules) where
  module _ (plan : Plan) (components : List K) (journal : Journal) (s : State K) (well : StartsWell rules plan components) (leads : Leads rules (start_of plan components) journal s) (deadlock : IsDeadlock s) where
    -- Whoever hasn't ended is blocked.
    pub blocks-too : (p : ℕ) (x : Process K) → slice_get s.kept.processes p ≡ Some x → (x.stage ≡ stages.Ended → ⊥) → IsSome (block_of (looks s.kept.channels) x)
    blocks-too = blocked rules lawful plan components journal s well leads deadlock

    -- Each blocked process waits for one.
    pub waits-too : (p : ℕ) → IsSome (block s.kept p) → (w : Waits) × (waits_at plan s.kept p ≡ Some w) × IsSome (block s.kept w.to) × (w.process ≡ p)
    waits-too = blocked-waits rules lawful plan components journal s well leads deadlock

    -- some process is blocked, and one is the lowest
    pub lowest : (p : ℕ) × (lowest_blocked s.kept ≡ Some p) × IsSome (block s.kept p)
    lowest = by (lowest_blocked s.kept) refl
      where
        test : Process K → Bool
        test x = is_some (block_of (looks s.kept.channels) x)

        by : (found : Option ℕ) → lowest_blocked s.kept ≡ found → (p : ℕ) × (lowest_blocked s.kept ≡ Some p) × IsSome (block s.kept p)
        by None none = absurd (deadlock.2 (λ p x there. elim (ended-or x.stage) [
          | inl ended ↦ ended
          | inr on ↦ absurd (
              let yes : test x ≡ true = some-true (block_of (looks s.kept.channels) x) (blocks-too p x there on) in
              let no : test (get_or s.kept.processes p x) ≡ false = position-None test s.kept.processes none p x (slice_get_within s.kept.processes p x there) in
              let h : true ≡ false = sym yes ∙ ap test (sym (get_or_from_slice_get s.kept.processes p x x there)) ∙ no in cc)
        ]))
        by (Some p) at = at-place s.kept.processes refl p at
          where
            at-place : (processes : List (Process K)) → s.kept.processes ≡ processes → (p : ℕ) → lowest_blocked s.kept ≡ Some p → (q : ℕ) × (lowest_blocked s.kept ≡ Some q) × IsSome (block s.kept q)
            at-place [] are p at = absurd (let h : None ≡ Some p = sym (ap (position test) are) ∙ at in cc)
            at-place (d ∷ rest) are p at =
                let found = position-Some test s.kept.processes p d at in
                let there = get-there s.kept.processes p d found.0 in
                (p, at, subst (λ (z : Option (Process K)). IsSome (option_and_then (block_of (looks s.kept.channels)) z)) (sym there) (true-some (block_of (looks s.kept.channels) (get_or s.kept.processes p d)) found.1))

    -- the walk from it finds the cycle
    pub found : Found plan s.kept (waits-named plan s.kept) (length s.kept.processes) (λ p. IsSome (block s.kept p)) (block-below s.kept) (λ p some. (let w = waits-too p some in (w.0, w.1, w.2))) (length s.kept.processes + 1) lowest.0 [] lowest.0
    found =
        walks plan s.kept (waits-named plan s.kept) (length s.kept.processes) (λ p. IsSome (block s.kept p)) (block-below s.kept) (λ p some. (let w = waits-too p some in (w.0, w.1, w.2)))
        (length s.kept.processes + 1) lowest.0 [] lowest.0 refl (IsDistinct-from_apart nat_eq [] (λ i j d less within. absurd (omega (arith, within)))) (λ q any. absurd (cc)) lowest.2 (omega arith)

    -- And it is one.
    pub is-cycle : IsWaitingCycle plan s.kept found.cycle
    is-cycle = record { lowest = lowest.0; is_lowest = lowest.1; way = found.whole; entry = found.entry; leads = found.leads; back = found.back; some = found.some; once = found.once }

    -- So each waits, and there is one cycle.
    pub waits-in_a_cycle : BlockedOnBlocked plan s × HasOneWaitingCycle plan s
    waits-in_a_cycle = (
      (λ p some. (let w = waits-too p some in (w.0, w.1, w.2))),
      record { cycle = found.cycle; is = is-cycle; only = λ other other_is. one-cycle plan s.kept (waits-named plan s.kept) other found.cycle other_is is-cycle },
    )

  -- The law.
  pub deadlocks-wait : DeadlocksWait rules
  deadlocks-wait = λ plan components journal s well leads deadlock. waits-in_a_cycle plan components journal s well leads deadlock
