-- The component that passes every packet on. It has no state of its own, so its meaning is that of any such component.
use Rattle.std.specs.Prelude.{◌≡◌}
use Rattle.flow_packet.specs.Held.{Held}
use Rattle.flow_component.specs.declared.Answer.{Answer}
use Rattle.flow_component.specs.declared.Answer.TheVariants as answers
use Rattle.flow_component.specs.declared.Wish.{Wish}
use Rattle.flow_component.specs.declared.Wish.TheVariants.{Deactivate}
use Rattle.flow_component.specs.Laws.{Rules, Outcome, Wishes}
use Rattle.flow_component.specs.Ports.{one_to_one, uses_first, receive_first, send_first}
use Rattle.flow_component.specs.Outcomes.{IsAtHand}

-- It receives; it sends what it got, and receives again; at the end it deactivates.
abbrev pub passes : Answer → Wish
passes answers.Start = receive_first
passes (answers.Got id) = send_first id
passes answers.End = Deactivate
passes answers.Sent = receive_first
passes (answers.Level n) = Deactivate

-- It comes to this alone, and leaves the hands as they are.
abbrev pub PassthruNext : {K : Type 0} → K → Held → Answer → Outcome K → Type 0
PassthruNext component held answer outcome = outcome ≡ Wishes component held (passes answer)

-- All that a network knows of it.
abbrev pub passthru_rules : {K : Type 0} → Rules K
passthru_rules = record { shape = λ _. one_to_one; uses = λ _. uses_first; ready = λ _. IsAtHand; next = PassthruNext }
