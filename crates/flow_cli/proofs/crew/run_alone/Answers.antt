use Rattle.std.proofs.Common.{refl}
use Rattle.flow_own.specs.declared.sorted.Sorted.TheVariants as sorts
use Rattle.flow_cli.proofs.Sorts.{sorted-ran}
use Rattle.flow_cli.proofs.crew.run_alone.Goals as goal

pub returns-in-Ok : goal.returns-in-Ok
returns-in-Ok g c =
    sorted-ran 0 c.args.net c.in-Unmixed.net c.net.inside.net (sorts.Unmixed c.in-Unmixed.net) c.unmixed.result c.in-Ok.worked c.net.view_is c.in-Unmixed.is refl c.unmixed.ensures c.in-Ok.ensures

pub returns-in-Ok-go_alone : goal.returns-in-Ok-go_alone
returns-in-Ok-go_alone g c =
    sorted-ran 0 c.args.net c.in-Mixed.net c.net.inside.net (sorts.Mixed c.in-Mixed.net) c.mixed.result c.in-Ok-go_alone.worked c.net.view_is c.in-Mixed.is refl c.mixed.ensures c.in-Ok-go_alone.ensures
