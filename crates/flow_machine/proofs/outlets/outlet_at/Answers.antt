use Rattle.std.proofs.Common.{◌∙◌, sym, ap, drop, slice_get}
use Rattle.flow_machine.proofs.OutletLemmas.{connections, connection-here, connections-over, connection_at-from}
use Rattle.flow_machine.proofs.outlets.outlet_at.Goals as goal

pub returns-then-left-eq0 : goal.returns-then-left-eq0
returns-then-left-eq0 c =
    sym (connection-here c.args.outputs.now c.loop-output.output-index c.in-Some.connection c.loop-output-test.true c.in-Some.is) ∙ ap (slice_get (connections (drop c.loop-output.output-index c.args.outputs.now))) (sym c.if-left-eq0.true)
    ∙ c.loop-output.invariant ∙ sym (connection_at-from 0 c.args.outputs.now c.args.place)

pub returns : goal.returns
returns c =
    sym (connections-over c.args.outputs.now c.loop-output.output-index c.loop-output.left c.loop-output-test.false) ∙ c.loop-output.invariant ∙ sym (connection_at-from 0 c.args.outputs.now c.args.place)
