-- Hoard keeps the laws of components.
use Rattle.std.proofs.Common.{refl, sym, subst, arith}
use Rattle.flow_packet.specs.Held.{Held}
use Rattle.flow_component.specs.declared.Answer.{Answer}
use Rattle.flow_component.specs.declared.Answer.TheVariants as answers
use Rattle.flow_component.specs.Laws.{Lawful, Wishes, Obeys, StaysReady, IsSteady, IsAllowed, ReadyAfter}
use Rattle.flow_component.specs.Ports.{one_to_none, uses_none, first_port}
use Rattle.flow_component.specs.Outcomes.{IsAtHand}
use Rattle.flow_component.proofs.Comings.{comes_same}
use Rattle.flow_component.proofs.Loopers.{at_hand_received, at_hand_idle}
use Rattle.flow_streams.specs.Hoard.{hoards, hoard_rules}

allowed : (held : Held) (answer : Answer) → IsAtHand held answer → IsAllowed one_to_none uses_none held (hoards answer)
allowed held answers.Start r = omega arith
allowed held (answers.Got id) r = omega arith
allowed held answers.End r = tt
allowed held answers.Sent r = omega arith
allowed held (answers.Level n) r = absurd r

after : (held : Held) (answer : Answer) → ReadyAfter IsAtHand held (hoards answer)
after held answers.Start = at_hand_received held first_port
after held (answers.Got id) = at_hand_received held first_port
after held answers.End = at_hand_idle held
after held answers.Sent = at_hand_received held first_port
after held (answers.Level n) = at_hand_idle held

-- It keeps the laws of components.
pub hoard_lawful : {K : Type 0} → Lawful {K = K} hoard_rules
hoard_lawful = record {
  obeys = λ component held answer outcome r is. subst (Obeys one_to_none uses_none held) (sym is) (comes_same held, allowed held answer r);
  stays_ready = λ component held answer outcome r is. subst (StaysReady hoard_rules) (sym is) (after held answer);
  steady = λ component held answer outcome is. subst (IsSteady hoard_rules component) (sym is) (record { shape = refl; outputs = refl });
  has_outcome = λ component held answer _. (Wishes component held (hoards answer), refl);
}
