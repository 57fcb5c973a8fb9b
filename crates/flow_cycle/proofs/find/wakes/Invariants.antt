use Rattle.std.proofs.Common.{◌≡◌, drop}
use Rattle.flow_cycle.specs.Nets.{wakes_in}
use Rattle.flow_cycle.proofs.find.wakes.Given as goal

abbrev pub invariant-inputs : goal.invariant-inputs
invariant-inputs g l = wakes_in l.plan l.net.bodies l.process l.body.process.inputs ≡ wakes_in l.plan l.net.bodies l.process (drop l.input l.body.process.inputs)
