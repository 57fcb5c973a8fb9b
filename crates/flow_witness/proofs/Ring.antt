-- The ring starts well and is a deadlock.
use Rattle.flow_limits.specs.declared.TheConstants.{CAPACITY_LIMIT, SENDER_LIMIT, TEXT_LIMIT}
use Rattle.std.proofs.Common.{◌≡◌, ℕ, ◌<◌, ◌≤◌, length, refl, sym, ◌∙◌, arith, inl, Some, None, slice_get}
use Rattle.std.specs.Prelude.{codes}
use Rattle.flow_component.specs.declared.Answer.{Answer}
use Rattle.flow_component.specs.declared.Fail.{Fail}
use Rattle.flow_plan.specs.declared.plan.Sender.{Sender}
use Rattle.flow_plan.specs.declared.plan.Process.{Process as Entry}
use Rattle.flow_plan.specs.declared.plan.Connection.{Connection}
use Rattle.flow_plan.specs.Network.{IsInputEnd, IsOutputEnd}
use Rattle.flow_plan.specs.Valid.{HasConnection, IsWired}
use Rattle.flow_model.specs.declared.Stage.TheVariants as stages
use Rattle.flow_model.specs.States.{Process, State}
use Rattle.flow_model.specs.Events.{event_of}
use Rattle.flow_model.specs.Verdicts.{IsDeadlock}
use Rattle.flow_model.specs.Plans.{start_of, process_at_start, FitsProcess, StartsWell}
use Rattle.flow_catalogue.specs.declared.standard.Std.{Std}
use Rattle.flow_catalogue.specs.declared.standard.Std.TheVariants as components
use Rattle.flow_catalogue.specs.Std.{std_rules}
use Rattle.flow_witness.specs.Chain.{pass_of, link_of}
use Rattle.flow_witness.specs.FirstRun.{passing}
use Rattle.flow_witness.specs.Ends.{ring, ring_components, IsStuck}
use Rattle.flow_witness.proofs.Wired.{at_one, at_two, only_first, no_initial, the_one, same_place, s0, s1, senders_differ}
use Rattle.flow_witness.proofs.Starting.{sends_first}

abbrev c0 : Connection
c0 = link_of 0 1

abbrev c1 : Connection
c1 = link_of 1 0

abbrev q0 : Entry
q0 = pass_of (codes "A")

abbrev q1 : Entry
q1 = pass_of (codes "B")

has_connection : (p i : ℕ) (q : Entry) → slice_get ring.processes p ≡ Some q → i < q.inputs → HasConnection ring p i
has_connection p i q h lt = at_two (λ k x. (j : ℕ) → j < x.inputs → HasConnection ring k j) q0 q1
    (λ j below. only_first j (λ n. HasConnection ring 0 n) below (record { number = 1; connection = c1; here = refl; receiver = refl; input = refl }))
    (λ j below. only_first j (λ n. HasConnection ring 1 n) below (record { number = 0; connection = c0; here = refl; receiver = refl; input = refl }))
    p q h i lt

wired : IsWired ring
wired = record {
  few_processes = omega arith;
  few_connections = omega arith;
  receivers = at_two (λ c x. IsInputEnd ring x.receiver x.input) c0 c1 (q1, refl, omega arith) (q0, refl, omega arith);
  one_receiver = λ c d x y hc hd. at_two
      (λ c x. (d : ℕ) (y : Connection) → slice_get ring.connections d ≡ Some y → x.receiver ≡ y.receiver → x.input ≡ y.input → c ≡ d) c0 c1
      (at_two (λ d y. 1 ≡ y.receiver → 0 ≡ y.input → 0 ≡ d) c0 c1 (λ r i. refl) (λ r i. absurd (omega arith)))
      (at_two (λ d y. 0 ≡ y.receiver → 0 ≡ y.input → 1 ≡ d) c0 c1 (λ r i. absurd (omega arith)) (λ r i. refl))
      c x hc d y hd;
  senders = λ c k x s hc. at_two
      (λ c x. (k : ℕ) (s : Sender) → slice_get x.senders k ≡ Some s → IsOutputEnd ring s.process s.output) c0 c1
      (at_one (λ k s. IsOutputEnd ring s.process s.output) s0 (q0, refl, omega arith))
      (at_one (λ k s. IsOutputEnd ring s.process s.output) s1 (q1, refl, omega arith))
      c x hc k s;
  one_sender = λ c d k l x y s hc hd hk hl. at_two
      (λ c x. (k : ℕ) → slice_get x.senders k ≡ Some s → (d : ℕ) (y : Connection) → slice_get ring.connections d ≡ Some y → (l : ℕ) → slice_get y.senders l ≡ Some s → (c ≡ d) × (k ≡ l)) c0 c1
      (λ k. λ hk. at_two (λ d y. (l : ℕ) → slice_get y.senders l ≡ Some s → (0 ≡ d) × (k ≡ l)) c0 c1
      (λ l. λ hl. (refl, same_place s0 s k l hk hl)) (λ l. λ hl. absurd (senders_differ (the_one s0 s k hk ∙ sym (the_one s1 s l hl)))))
      (λ k. λ hk. at_two (λ d y. (l : ℕ) → slice_get y.senders l ≡ Some s → (1 ≡ d) × (k ≡ l)) c0 c1
      (λ l. λ hl. absurd (senders_differ (the_one s0 s l hl ∙ sym (the_one s1 s k hk)))) (λ l. λ hl. (refl, same_place s1 s k l hk hl)))
      c x hc k hk d y hd l hl;
  each_input = λ p i input. inl (has_connection p i input.0 input.1 input.2);
  not_both = λ p i connection has. at_two (λ p q. slice_get q.initials has.place ≡ Some (i, has.text) → ⊥) q0 q1
      (no_initial has.place (i, has.text)) (no_initial has.place (i, has.text)) p has.process has.here has.given;
  short = λ p k i q text h. at_two (λ p q. slice_get q.initials k ≡ Some (i, text) → length text ≤ TEXT_LIMIT) q0 q1 (no_initial k (i, text)) (no_initial k (i, text)) p q h;
  capacities = at_two (λ c x. (1 ≤ x.capacity) × (x.capacity ≤ CAPACITY_LIMIT)) c0 c1 (omega arith, omega arith) (omega arith, omega arith);
  few_senders = at_two (λ c x. length x.senders ≤ SENDER_LIMIT) c0 c1 (omega arith) (omega arith);
}

abbrev s : State Std
s = start_of ring ring_components

abbrev x0 : Process Std
x0 = process_at_start ring 0 q0 (components.Passthru passing)

abbrev x1 : Process Std
x1 = process_at_start ring 1 q1 (components.Passthru passing)

fits0 : FitsProcess std_rules x0.component x0
fits0 = record { inputs = refl; outputs = refl; used = sends_first x0 refl; can_start = λ held empty. tt }

fits1 : FitsProcess std_rules x1.component x1
fits1 = record { inputs = refl; outputs = refl; used = sends_first x1 refl; can_start = λ held empty. tt }

starts : StartsWell std_rules ring ring_components
starts = record { wired = wired; one_each = refl; fit = λ p x there. at_two (λ k y. FitsProcess std_rules y.component y) x0 x1 fits0 fits1 p x there }

deadlock : IsDeadlock s
deadlock = (
  record {
    thought = λ p x there. at_two (λ k y. (answer : Answer) → y.stage ≡ stages.Told answer → ⊥) x0 x1 (λ answer h. cc) (λ answer h. cc) p x there;
    still = λ p x n there. at_two (λ k y. event_of s.kept.channels y n ≡ None) x0 x1 refl refl p x there;
  },
  λ failed. at_two (λ k y. (cause : Fail) → y.stage ≡ stages.Failed cause → ⊥) x0 x1 (λ cause h. cc) (λ cause h. cc) failed.0 failed.1 failed.3 failed.2 failed.4,
  λ all. (let h = all 0 x0 refl in cc),
)

-- The ring is a deadlock: each of its processes waits for the other.
pub stuck : IsStuck
stuck = record { starts = starts; deadlock = deadlock }
