use Rattle.flow_load.specs.Offers.{known}
use Rattle.flow_load.proofs.Fitting.{live-fit}
use Rattle.flow_cli.proofs.start.start.Goals as goal

pub start-requires-clause-well : goal.start-requires-clause-well
start-requires-clause-well g c =
    let plan = c.args.job.plan in
    let components = c.args.job.components.items in
    c.a_valid_plan_is_ready.ensures.starts plan (known components) c.requires.offered.valid
    (live-fit c.own_components_fit.ensures.mixed c.args.own.now plan c.requires.live.0 components c.requires.live.1)
