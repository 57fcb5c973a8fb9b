-- WriteLines keeps the laws of components.
use Rattle.std.proofs.Common.{ℕ, List, refl, sym, subst, arith}
use Rattle.flow_packet.specs.Held.{Held, without_packet}
use Rattle.flow_component.specs.declared.Answer.{Answer}
use Rattle.flow_component.specs.declared.Answer.TheVariants as answers
use Rattle.flow_component.specs.Laws.{Lawful, Obeys, StaysReady}
use Rattle.flow_component.specs.Ports.{one_to_none, uses_none, first_port}
use Rattle.flow_component.specs.Outcomes.{IsAtHand}
use Rattle.flow_component.proofs.Comings.{comes_same, comes_dropped}
use Rattle.flow_component.proofs.Loopers.{at_hand_received, at_hand_idle}
use Rattle.flow_parts.specs.WriteLines.{writes, write_lines_rules}

obeys : (bytes : List ℕ) (held : Held) (answer : Answer) → IsAtHand held answer → Obeys one_to_none uses_none held (writes bytes held answer)
obeys bytes held answers.Start r = (comes_same held, omega arith)
obeys bytes held (answers.Got id) r = (comes_dropped held id r, omega arith)
obeys bytes held answers.End r = (comes_same held, tt)
obeys bytes held answers.Sent r = (comes_same held, omega arith)
obeys bytes held (answers.Level n) r = absurd r

stays : (bytes : List ℕ) (held : Held) (answer : Answer) → StaysReady write_lines_rules (writes bytes held answer)
stays bytes held answers.Start = at_hand_received held first_port
stays bytes held (answers.Got id) = at_hand_received (without_packet held id) first_port
stays bytes held answers.End = at_hand_idle held
stays bytes held answers.Sent = at_hand_received held first_port
stays bytes held (answers.Level n) = at_hand_idle held

-- It keeps the laws of components.
pub write_lines_lawful : Lawful write_lines_rules
write_lines_lawful = record {
  obeys = λ bytes held answer outcome r is. subst (Obeys one_to_none uses_none held) (sym is) (obeys bytes held answer r);
  stays_ready = λ bytes held answer outcome r is. subst (StaysReady write_lines_rules) (sym is) (stays bytes held answer);
  steady = λ bytes held answer outcome is. record { shape = refl; outputs = refl };
  has_outcome = λ component held answer _. (writes component held answer, refl);
}
