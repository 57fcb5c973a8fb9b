use Rattle.std.proofs.Common.{refl}
use Rattle.flow_own.specs.declared.sorted.Sorted.TheVariants as sorts
use Rattle.flow_cli.proofs.Sorts.{sorted-ran}
use Rattle.flow_cli.proofs.crew.run_by_workers.Goals as goal

pub returns-in-Ok : goal.returns-in-Ok
returns-in-Ok g c =
    sorted-ran c.args.workers c.args.net c.in-Unmixed.net c.net.inside.net (sorts.Unmixed c.in-Unmixed.net) c.unmixed.result c.in-Ok.worked c.net.view_is c.in-Unmixed.is refl c.unmixed.ensures c.in-Ok.ensures

pub returns-in-Ok-go_by_workers : goal.returns-in-Ok-go_by_workers
returns-in-Ok-go_by_workers g c =
    sorted-ran c.args.workers c.args.net c.in-Mixed.net c.net.inside.net (sorts.Mixed c.in-Mixed.net) c.mixed.result c.in-Ok-go_by_workers.worked c.net.view_is c.in-Mixed.is refl c.mixed.ensures c.in-Ok-go_by_workers.ensures
