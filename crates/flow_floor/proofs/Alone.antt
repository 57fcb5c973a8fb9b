-- Where one process sends into a connection, the seat that holds it is alone at the sending end.
use Rattle.std.proofs.Common.{◌≡◌, ℕ, ◌<◌, ◌≤◌, false, List, [], ◌∷◌, length, sym, refl, ap, ◌∙◌, arith, Option, Some, None, slice_get, ◌⊎◌, inl, inr, Contains, nat_lt}
use Rattle.std.specs.Prelude.{option_and_then}
use Rattle.std.proofs.lemmas.Grind.{merely}
use mathlib.Core.Option.{some, some-injective}
use lib.ListN.{get_elem?}
use Rattle.std.proofs.lemmas.Bool.Decides.{nat_tests}
use Rattle.flow_component.specs.Laws.{Rules, Lawful}
use Rattle.flow_plan.specs.declared.plan.Connection.{Connection}
use Rattle.flow_plan.specs.declared.plan.Sender.{Sender as Port}
use Rattle.flow_machine.specs.Joins.{IsPlanned}
use Rattle.flow_machine.specs.Values.{BodyValue, NetValue}
use Rattle.flow_floor.specs.Plans.{sending_processes}
use Rattle.flow_floor.specs.Waking.{IsWiredAs}
use Rattle.flow_floor.specs.Wired.{IsOutput}
use Rattle.flow_floor.proofs.Numbers.{contains-none, contains-cases}
use Rattle.flow_floor.proofs.Plans.{sends-there, connection-count}
use Rattle.flow_floor.proofs.Lists.{some_Some, get-exists, get-within}
use Rattle.flow_floor.specs.declared.board.Sending.{Sending}
use Rattle.flow_floor.specs.declared.board.View.{View}
use Rattle.flow_floor.specs.Ends.{Sends, has_several, is_shared}
use Rattle.flow_floor.specs.Law.{SaysSending}
use Rattle.flow_floor.specs.Rule.{Law}
use Rattle.flow_floor.proofs.Cells.{St}
use Rattle.flow_floor.proofs.Flows.{mine-holds}

-- the processes of one sender at most are one
one-named : (ports : List Port) (p q : ℕ) → nat_lt 1 (length ports) ≡ false → Contains (sending_processes ports) p → Contains (sending_processes ports) q → p ≡ q
one-named [] p q few first second = absurd (contains-none p first)
one-named (s ∷ []) p q few first second = only p (contains-cases p s.process [] first) ∙ sym (only q (contains-cases q s.process [] second))
  where
    only : (x : ℕ) → (x ≡ s.process) ⊎ Contains [] x → x ≡ s.process
    only x (inl e) = e
    only x (inr none) = absurd (contains-none x none)
one-named (s ∷ t ∷ ports) p q few first second = absurd (omega (arith, high))
  where
    high : length (s ∷ t ∷ ports) ≤ 1
    high = grind (arith, nat_tests)

module _ {K : Type 0} (rules : Rules K) (lawful : Lawful rules)
    (start : NetValue K) where
  -- Two processes that send into such a connection are one.
  one-sender : (now : NetValue K) → IsPlanned start → IsWiredAs start now → length now.bodies ≡ length start.bodies → (p q c : ℕ) (b d : BodyValue K) → is_shared start c ≡ false → slice_get now.bodies p ≡ Some b → slice_get now.bodies q ≡ Some d → IsOutput b c → IsOutput d c → c < length start.channels → p ≡ q
  one-sender now planned wired same p q c b d alone at_p at_q output output' below =
      let x = get-exists start.connections c (omega (arith, below, connection-count start (merely planned))) in
      let few : nat_lt 1 (length x.0.senders) ≡ false = ap has_several (sym x.1) ∙ alone in
      one-named x.0.senders p q few (named p b at_p output x.0 x.1) (named q d at_q output' x.0 x.1)
    where
      named : (p : ℕ) (b : BodyValue K) → slice_get now.bodies p ≡ Some b → IsOutput b c → (x : Connection) → slice_get start.connections c ≡ Some x → Contains (sending_processes x.senders) p
      named p b at output x at_c =
          let old = get-exists start.bodies p (omega (arith, get-within now.bodies p b at, same)) in
          let outs = wired.outputs p b old.0 at old.1 in
          sends-there start (merely planned) p c old.0 x at_c old.1 (output.0, ap (λ (xs : List (Option ℕ)). option_and_then (λ (y : Option ℕ). y) (slice_get xs output.0)) (sym outs) ∙ output.1)

  -- So nobody is at the sending end, where the seat that holds the process isn't.
  pub sender-none : (s : St K) (r : Law rules start s) (id p c : ℕ) (v : View K) (b : BodyValue K) → get_elem? s.views id ≡ some v → v.held ≡ Some (p, b) → IsOutput b c → c < length start.channels → is_shared start c ≡ false → v.sending ≡ None → r.beside.senders c ≡ None
  sender-none s r id p c v b at holds output below alone none = by (r.beside.senders c) refl
    where
      other : (j : ℕ) (x : Sending) → r.beside.senders c ≡ Some (j, x) → ⊥
      other j x is = go (r.flow.each_sender c j x is) (r.flow.each_sender c j x is).view.held refl (r.flow.each_sender c j x is).allowed
        where
          go : (says : SaysSending s.views c j x) (h : Option (ℕ × BodyValue K)) → says.view.held ≡ h → Sends h c → ⊥
          go says None e own = own
          go says (Some (q, d)) e own =
              let theirs = mine-holds rules lawful start s r.beside j q says.view d r.flow says.there e in
              let mine = mine-holds rules lawful start s r.beside id p v b r.flow at holds in
              let one = one-sender r.beside.now r.planned r.wakes.wired r.flow.same.0 p q c b d alone mine.1 theirs.1 output own below in
              let seat : id ≡ j = some_Some id j (sym mine.0 ∙ ap r.beside.holder one ∙ theirs.0) in
              let view : v ≡ says.view = some-injective v says.view (sym at ∙ ap (get_elem? s.views) seat ∙ says.there) in
              let gone : None ≡ Some x = sym none ∙ ap (λ (z : View K). z.sending) view ∙ says.says in cc

      by : (o : Option (ℕ × Sending)) → r.beside.senders c ≡ o → r.beside.senders c ≡ None
      by None is = is
      by (Some (j, x)) is = absurd (other j x is)
