use Rattle.std.proofs.Common.{◌<◌, sym, ◌∙◌, length, arith}
use Rattle.flow_cycle.proofs.Steps.{wakes-here, wakes-next}
use Rattle.flow_cycle.proofs.find.wakes.Goals as goal

pub returns-in-Some : goal.returns-in-Some
returns-in-Some g c =
    let below : c.inputs.input < length c.args.body.now.process.inputs = omega arith in
    sym (
    c.inputs.invariant
    ∙ wakes-here c.args.plan.now c.args.net.now.bodies c.args.process c.args.body.now.process.inputs c.inputs.input below c.input.result c.in-Some.found c.input.ensures (sym c.wakes_at.ensures ∙ c.in-Some.is)
    )

pub inputs-preserved : goal.inputs-preserved
inputs-preserved g c =
    let below : c.inputs.input < length c.args.body.now.process.inputs = omega arith in
    c.inputs.invariant ∙ wakes-next c.args.plan.now c.args.net.now.bodies c.args.process c.args.body.now.process.inputs c.inputs.input below c.input.result c.input.ensures (sym c.wakes_at.ensures ∙ c.in_default.is)
