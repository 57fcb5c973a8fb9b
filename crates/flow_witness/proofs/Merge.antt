-- The merge starts well, and two schedules of it finish with different bytes.
use Rattle.flow_limits.specs.declared.TheConstants.{CAPACITY_LIMIT, SENDER_LIMIT, TEXT_LIMIT}
use Rattle.std.proofs.Common.{◌≡◌, ℕ, zero, suc, ◌<◌, ◌≤◌, [], ◌∷◌, length, refl, sym, ◌∙◌, arith, inl, Some, None, Option, slice_get, false, true}
use Rattle.std.specs.Prelude.{codes}
use Rattle.flow_plan.specs.declared.plan.Sender.{Sender}
use Rattle.flow_plan.specs.declared.plan.Process.{Process as Entry}
use Rattle.flow_plan.specs.declared.plan.Connection.{Connection}
use Rattle.flow_plan.specs.Network.{IsInputEnd, IsOutputEnd}
use Rattle.flow_plan.specs.Valid.{HasConnection, IsWired}
use Rattle.flow_model.specs.declared.Stage.TheVariants as stages
use Rattle.flow_model.specs.States.{Process, State}
use Rattle.flow_model.specs.Plans.{start_of, process_at_start, FitsProcess, StartsWell}
use Rattle.flow_model.proofs.Replay.{run, run-leads}
use Rattle.flow_catalogue.specs.declared.standard.Std.{Std}
use Rattle.flow_catalogue.specs.declared.standard.Std.TheVariants as components
use Rattle.flow_catalogue.specs.Std.{std_next, std_rules}
use Rattle.flow_witness.specs.Chain.{reader_of, writer_of}
use Rattle.flow_witness.specs.Ends.{merge, merge_components, first_then, MergesTo, IsMerge}
use Rattle.flow_witness.proofs.Wired.{at_one, at_two, at_three, only_first, no_initial, the_one, same_place, s0, s1, senders_differ}
use Rattle.flow_witness.proofs.Starting.{sends_first}
use Rattle.flow_witness.proofs.Round.{at}

abbrev c0 : Connection
c0 = record { receiver = 2; input = 0; capacity = 10; senders = s0 ∷ s1 ∷ [] }

abbrev q0 : Entry
q0 = reader_of (codes "A") (codes "a.txt")

abbrev q1 : Entry
q1 = reader_of (codes "B") (codes "b.txt")

abbrev q2 : Entry
q2 = writer_of (codes "W") (codes "out.txt")

-- each of the two senders has one place
place_of : (s : Sender) (k l : ℕ) → slice_get (s0 ∷ s1 ∷ []) k ≡ Some s → slice_get (s0 ∷ s1 ∷ []) l ≡ Some s → k ≡ l
place_of s zero zero h g = refl
place_of s zero (suc l) h g = absurd (senders_differ ((let e : s0 ≡ s = cc in e) ∙ sym (the_one s1 s l g)))
place_of s (suc k) zero h g = absurd (senders_differ ((let e : s0 ≡ s = cc in e) ∙ sym (the_one s1 s k h)))
place_of s (suc k) (suc l) h g = let e : k ≡ l = same_place s1 s k l h g in (λ i. suc (e i))

has_connection : (p i : ℕ) (q : Entry) → slice_get merge.processes p ≡ Some q → i < q.inputs → HasConnection merge p i
has_connection p i q h lt = at_three (λ k x. (j : ℕ) → j < x.inputs → HasConnection merge k j) q0 q1 q2
    (λ j below. absurd (omega arith))
    (λ j below. absurd (omega arith))
    (λ j below. only_first j (λ n. HasConnection merge 2 n) below (record { number = 0; connection = c0; here = refl; receiver = refl; input = refl }))
    p q h i lt

wired : IsWired merge
wired = record {
  few_processes = omega arith;
  few_connections = omega arith;
  receivers = at_one (λ c x. IsInputEnd merge x.receiver x.input) c0 (q2, refl, omega arith);
  one_receiver = λ c d x y hc hd receiver input. at_one (λ c x. c ≡ d) c0 (at_one (λ d y. 0 ≡ d) c0 refl d y hd) c x hc;
  senders = λ c k x s hc. at_one
      (λ c x. (k : ℕ) (s : Sender) → slice_get x.senders k ≡ Some s → IsOutputEnd merge s.process s.output) c0
      (at_two (λ k s. IsOutputEnd merge s.process s.output) s0 s1 (q0, refl, omega arith) (q1, refl, omega arith))
      c x hc k s;
  one_sender = λ c d k l x y s hc hd hk hl. at_one
      (λ c x. slice_get x.senders k ≡ Some s → (c ≡ d) × (k ≡ l)) c0
      (λ hk. at_one (λ d y. slice_get y.senders l ≡ Some s → (0 ≡ d) × (k ≡ l)) c0 (λ hl. (refl, place_of s k l hk hl)) d y hd hl)
      c x hc hk;
  each_input = λ p i input. inl (has_connection p i input.0 input.1 input.2);
  not_both = λ p i connection has. at_three (λ p q. slice_get q.initials has.place ≡ Some (i, has.text) → ⊥) q0 q1 q2
      (no_initial has.place (i, has.text)) (no_initial has.place (i, has.text)) (no_initial has.place (i, has.text)) p has.process has.here has.given;
  short = λ p k i q text h. at_three (λ p q. slice_get q.initials k ≡ Some (i, text) → length text ≤ TEXT_LIMIT) q0 q1 q2
      (no_initial k (i, text)) (no_initial k (i, text)) (no_initial k (i, text)) p q h;
  capacities = at_one (λ c x. (1 ≤ x.capacity) × (x.capacity ≤ CAPACITY_LIMIT)) c0 (omega arith, omega arith);
  few_senders = at_one (λ c x. length x.senders ≤ SENDER_LIMIT) c0 (omega arith);
}

abbrev start : State Std
start = start_of merge merge_components

abbrev x0 : Process Std
x0 = process_at_start merge 0 q0 (components.ReadLines ((97 ∷ []) ∷ []))

abbrev x1 : Process Std
x1 = process_at_start merge 1 q1 (components.ReadLines ((98 ∷ []) ∷ []))

abbrev x2 : Process Std
x2 = process_at_start merge 2 q2 (components.WriteLines [])

fits0 : FitsProcess std_rules x0.component x0
fits0 = record { inputs = refl; outputs = refl; used = sends_first x0 refl; can_start = λ held empty. empty }

fits1 : FitsProcess std_rules x1.component x1
fits1 = record { inputs = refl; outputs = refl; used = sends_first x1 refl; can_start = λ held empty. empty }

fits2 : FitsProcess std_rules x2.component x2
fits2 = record { inputs = refl; outputs = refl; used = λ port uses. absurd (let bad : false ≡ true = uses in cc); can_start = λ held empty. tt }

starts : StartsWell std_rules merge merge_components
starts = record { wired = wired; one_each = refl; fit = λ p x there. at_three (λ k y. FitsProcess std_rules y.component y) x0 x1 x2 fits0 fits1 fits2 p x there }

abbrev or_start : Option (State Std) → State Std
or_start (Some s) = s
or_start None = start

abbrev one_end : State Std
one_end = or_start (run std_next start (first_then 0 1).turns [])

abbrev other_end : State Std
other_end = or_start (run std_next start (first_then 1 0).turns [])

one : MergesTo (first_then 0 1) (97 ∷ 10 ∷ 98 ∷ 10 ∷ [])
one = record {
  last = one_end;
  leads = run-leads std_rules std_next (λ _ _ _. refl) start (first_then 0 1).turns [] one_end refl;
  finished = λ p x there. at_three (λ k y. y.stage ≡ stages.Ended) (at one_end 0) (at one_end 1) (at one_end 2) refl refl refl p x there;
  writer = at one_end 2;
  there = refl;
  written = refl;
}

other : MergesTo (first_then 1 0) (98 ∷ 10 ∷ 97 ∷ 10 ∷ [])
other = record {
  last = other_end;
  leads = run-leads std_rules std_next (λ _ _ _. refl) start (first_then 1 0).turns [] other_end refl;
  finished = λ p x there. at_three (λ k y. y.stage ≡ stages.Ended) (at other_end 0) (at other_end 1) (at other_end 2) refl refl refl p x there;
  writer = at other_end 2;
  there = refl;
  written = refl;
}

-- Two senders come together on one connection, in an order that is one of several.
pub merges : IsMerge
merges = record { starts = starts; one = one; other = other }
