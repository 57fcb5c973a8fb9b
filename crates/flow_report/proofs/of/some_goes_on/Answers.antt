use Rattle.std.proofs.Common.{◌≡◌, ◌+◌, ◌<◌, false, length, sym, arith, take, add-one}
use Rattle.std.specs.List.{list_any}
use Rattle.flow_machine.specs.Nets.{looks_of}
use Rattle.flow_report.specs.Of.{goes_on}
use Rattle.flow_report.proofs.Tests.{any-there-if, any-more-if}
use Rattle.flow_report.proofs.of.some_goes_on.Goals as goal

pub returns-then-process_goes_on : goal.returns-then-process_goes_on
returns-then-process_goes_on g c =
    let below : c.loop-process.process < length c.args.net.now.bodies = omega arith in
    sym (any-there-if (λ b. goes_on (looks_of c.args.net.now.channels) b.process) c.args.net.now.bodies c.loop-process.process c.process_goes_on.result below c.process_goes_on.ensures c.if-process_goes_on.true)

pub loop-process-preserved : goal.loop-process-preserved
loop-process-preserved g c =
    let below : c.loop-process.process < length c.args.net.now.bodies = omega arith in
    let more : list_any (λ b. goes_on (looks_of c.args.net.now.channels) b.process) (take (c.loop-process.process + 1) c.args.net.now.bodies) ≡ false =
    rw add-one (any-more-if (λ b. goes_on (looks_of c.args.net.now.channels) b.process) c.args.net.now.bodies c.loop-process.process c.process_goes_on.result below c.process_goes_on.ensures c.if-process_goes_on.false c.loop-process.invariant) in
    more
