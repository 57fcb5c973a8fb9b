-- Passthru keeps the laws of components.
use Rattle.std.proofs.Common.{refl, sym, subst, arith}
use Rattle.flow_packet.specs.Held.{Held}
use Rattle.flow_component.specs.declared.Answer.{Answer}
use Rattle.flow_component.specs.declared.Answer.TheVariants as answers
use Rattle.flow_component.specs.Laws.{Lawful, Wishes, Obeys, StaysReady, IsAllowed, ReadyAfter}
use Rattle.flow_component.specs.Ports.{one_to_one, uses_first, first_port}
use Rattle.flow_component.specs.Outcomes.{IsAtHand}
use Rattle.flow_component.proofs.Comings.{comes_same}
use Rattle.flow_component.proofs.Loopers.{at_hand_received, at_hand_sent, at_hand_idle}
use Rattle.flow_streams.specs.Passthru.{passes, passthru_rules}

allowed : (held : Held) (answer : Answer) → IsAtHand held answer → IsAllowed one_to_one uses_first held (passes answer)
allowed held answers.Start r = omega arith
allowed held (answers.Got id) r = (refl, r)
allowed held answers.End r = tt
allowed held answers.Sent r = omega arith
allowed held (answers.Level n) r = absurd r

after : (held : Held) (answer : Answer) → ReadyAfter IsAtHand held (passes answer)
after held answers.Start = at_hand_received held first_port
after held (answers.Got id) = at_hand_sent held first_port id
after held answers.End = at_hand_idle held
after held answers.Sent = at_hand_received held first_port
after held (answers.Level n) = at_hand_idle held

-- It keeps the laws of components.
pub passthru_lawful : {K : Type 0} → Lawful {K = K} passthru_rules
passthru_lawful = record {
  obeys = λ component held answer outcome r is. subst (Obeys one_to_one uses_first held) (sym is) (comes_same held, allowed held answer r);
  stays_ready = λ component held answer outcome r is. subst (StaysReady passthru_rules) (sym is) (after held answer);
  steady = λ component held answer outcome is. record { shape = refl; outputs = refl };
  has_outcome = λ component held answer _. (Wishes component held (passes answer), refl);
}
