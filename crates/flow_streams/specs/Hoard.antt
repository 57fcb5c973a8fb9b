-- The component that keeps every packet. It has no state of its own.
use Rattle.std.specs.Prelude.{◌≡◌}
use Rattle.flow_packet.specs.Held.{Held}
use Rattle.flow_component.specs.declared.Answer.{Answer}
use Rattle.flow_component.specs.declared.Answer.TheVariants as answers
use Rattle.flow_component.specs.declared.Wish.{Wish}
use Rattle.flow_component.specs.declared.Wish.TheVariants.{Deactivate}
use Rattle.flow_component.specs.Laws.{Rules, Outcome, Wishes}
use Rattle.flow_component.specs.Ports.{one_to_none, uses_none, receive_first}
use Rattle.flow_component.specs.Outcomes.{IsAtHand}

-- It receives until the end.
abbrev pub hoards : Answer → Wish
hoards answers.Start = receive_first
hoards (answers.Got id) = receive_first
hoards answers.End = Deactivate
hoards answers.Sent = receive_first
hoards (answers.Level n) = Deactivate

-- It comes to this alone, and leaves the hands as they are.
abbrev pub HoardNext : {K : Type 0} → K → Held → Answer → Outcome K → Type 0
HoardNext component held answer outcome = outcome ≡ Wishes component held (hoards answer)

-- All that a network knows of it.
abbrev pub hoard_rules : {K : Type 0} → Rules K
hoard_rules = record { shape = λ _. one_to_none; uses = λ _. uses_none; ready = λ _. IsAtHand; next = HoardNext }
