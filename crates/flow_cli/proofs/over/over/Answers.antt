use Rattle.flow_cli.proofs.Overs.{ends-make, ends-run, was-run}
use Rattle.flow_cli.proofs.over.over.Goals as goal

pub run_over-requires : goal.run_over-requires
run_over-requires g c = was-run c.args.own.now c.args.running c.in-Run.asked c.args.worked c.in-Run.is c.requires

pub returns-in-Ok : goal.returns-in-Ok
returns-in-Ok g c = ends-run c.args.own.now c.args.running c.in-Run.asked c.args.worked c.in-Ok.run' c.in-Run.is c.in-Ok.ensures

pub returns-in-Ok-make_over : goal.returns-in-Ok-make_over
returns-in-Ok-make_over g c =
    ends-make c.args.own.now c.args.running c.in-Make.number c.in-Make.workers c.in-Make.bytes c.args.worked c.in-Ok-make_over.said c.in-Make.is c.in-Ok-make_over.ensures
