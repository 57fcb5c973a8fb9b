-- The component that drops every packet. It has no state of its own.
use Rattle.std.specs.Prelude.{◌≡◌}
use Rattle.flow_packet.specs.Held.{Held, without_packet}
use Rattle.flow_component.specs.declared.Answer.{Answer}
use Rattle.flow_component.specs.declared.Answer.TheVariants as answers
use Rattle.flow_component.specs.declared.Wish.TheVariants.{Deactivate}
use Rattle.flow_component.specs.Laws.{Rules, Outcome, Wishes}
use Rattle.flow_component.specs.Ports.{one_to_none, uses_none, receive_first}
use Rattle.flow_component.specs.Outcomes.{IsAtHand}

-- It receives; it drops what it got, and receives again; at the end it deactivates.
abbrev pub discards : {K : Type 0} → K → Held → Answer → Outcome K
discards component held answers.Start = Wishes component held receive_first
discards component held (answers.Got id) = Wishes component (without_packet held id) receive_first
discards component held answers.End = Wishes component held Deactivate
discards component held answers.Sent = Wishes component held receive_first
discards component held (answers.Level n) = Wishes component held Deactivate

-- It comes to this alone.
abbrev pub DiscardNext : {K : Type 0} → K → Held → Answer → Outcome K → Type 0
DiscardNext component held answer outcome = outcome ≡ discards component held answer

-- All that a network knows of it.
abbrev pub discard_rules : {K : Type 0} → Rules K
discard_rules = record { shape = λ _. one_to_none; uses = λ _. uses_none; ready = λ _. IsAtHand; next = DiscardNext }
