use Rattle.std.proofs.Common.{◌≡◌, drop, slice_get}
use Rattle.std.specs.Prelude.{find}
use Rattle.flow_plan.specs.declared.plan.Sender.{Sender}
use Rattle.flow_cycle.specs.Nets.{not_ended}
use Rattle.flow_cycle.proofs.find.first_of.Given as goal

abbrev pub invariant-loop-sender : goal.invariant-loop-sender
invariant-loop-sender g l = find (λ (s : Sender). not_ended (slice_get l.net.bodies s.process)) l.senders ≡ find (λ (s : Sender). not_ended (slice_get l.net.bodies s.process)) (drop l.sender-index l.senders)
