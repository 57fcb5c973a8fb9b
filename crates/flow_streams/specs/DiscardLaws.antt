-- Discard keeps the laws of components.
use Rattle.std.proofs.Common.{refl, sym, subst, arith}
use Rattle.flow_packet.specs.Held.{Held, without_packet}
use Rattle.flow_component.specs.declared.Answer.{Answer}
use Rattle.flow_component.specs.declared.Answer.TheVariants as answers
use Rattle.flow_component.specs.Laws.{Lawful, Obeys, StaysReady, IsSteady}
use Rattle.flow_component.specs.Ports.{one_to_none, uses_none, first_port}
use Rattle.flow_component.specs.Outcomes.{IsAtHand}
use Rattle.flow_component.proofs.Comings.{comes_same, comes_dropped}
use Rattle.flow_component.proofs.Loopers.{at_hand_received, at_hand_idle}
use Rattle.flow_streams.specs.Discard.{discards, discard_rules}

module _ {K : Type 0} where
  obeys : (component : K) (held : Held) (answer : Answer) → IsAtHand held answer → Obeys one_to_none uses_none held (discards component held answer)
  obeys component held answers.Start r = (comes_same held, omega arith)
  obeys component held (answers.Got id) r = (comes_dropped held id r, omega arith)
  obeys component held answers.End r = (comes_same held, tt)
  obeys component held answers.Sent r = (comes_same held, omega arith)
  obeys component held (answers.Level n) r = absurd r

  stays : (component : K) (held : Held) (answer : Answer) → StaysReady discard_rules (discards component held answer)
  stays component held answers.Start = at_hand_received held first_port
  stays component held (answers.Got id) = at_hand_received (without_packet held id) first_port
  stays component held answers.End = at_hand_idle held
  stays component held answers.Sent = at_hand_received held first_port
  stays component held (answers.Level n) = at_hand_idle held

  steady : (component : K) (held : Held) (answer : Answer) → IsSteady discard_rules component (discards component held answer)
  steady component held answers.Start = record { shape = refl; outputs = refl }
  steady component held (answers.Got id) = record { shape = refl; outputs = refl }
  steady component held answers.End = record { shape = refl; outputs = refl }
  steady component held answers.Sent = record { shape = refl; outputs = refl }
  steady component held (answers.Level n) = record { shape = refl; outputs = refl }

  -- It keeps the laws of components.
  pub discard_lawful : Lawful {K = K} discard_rules
  discard_lawful = record {
    obeys = λ component held answer outcome r is. subst (Obeys one_to_none uses_none held) (sym is) (obeys component held answer r);
    stays_ready = λ component held answer outcome r is. subst (StaysReady discard_rules) (sym is) (stays component held answer);
    steady = λ component held answer outcome is. subst (IsSteady discard_rules component) (sym is) (steady component held answer);
    has_outcome = λ component held answer _. (discards component held answer, refl);
  }
