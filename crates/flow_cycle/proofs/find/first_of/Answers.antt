use Rattle.std.proofs.Common.{sym, ◌∙◌, slice_get}
use Rattle.flow_plan.specs.declared.plan.Sender.{Sender}
use Rattle.flow_cycle.specs.Nets.{not_ended}
use Rattle.flow_cycle.proofs.Steps.{find-here, find-next}
use Rattle.flow_cycle.proofs.find.first_of.Goals as goal

pub returns-then-not_ended : goal.returns-then-not_ended
returns-then-not_ended g c =
    sym (c.loop-sender.invariant ∙ find-here (λ (s : Sender). not_ended (slice_get c.args.net.now.bodies s.process)) c.args.senders.now c.loop-sender.sender-index (record { process = 0; output = 0 }) c.loop-sender-test.true (sym c.not_ended.ensures ∙ c.if-not_ended.true))

pub loop-sender-preserved : goal.loop-sender-preserved
loop-sender-preserved g c =
    c.loop-sender.invariant ∙ find-next (λ (s : Sender). not_ended (slice_get c.args.net.now.bodies s.process)) c.args.senders.now c.loop-sender.sender-index (record { process = 0; output = 0 }) c.loop-sender-test.true (sym c.not_ended.ensures ∙ c.if-not_ended.false)
