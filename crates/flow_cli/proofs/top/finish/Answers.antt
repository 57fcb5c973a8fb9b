use Rattle.flow_cli.specs.After.{outputs_at}
use Rattle.flow_cli.proofs.Finishing.{finished-as-printed}
use Rattle.flow_cli.proofs.top.finish.Goals as goal

pub returns-clause-files : goal.returns-clause-files
returns-clause-files g c =
    finished-as-printed (g.F.Edge.outside c.args.shelf.now) (g.F.Edge.outside c.write_outputs-written.new.shelf) (outputs_at (g.O.Edge.outside c.args.out.now) (g.E.Edge.outside c.args.err.now)) (outputs_at (g.O.Edge.outside c.print_written.new.out) (g.E.Edge.outside c.print_written.new.err)) c.args.run
    c.write_outputs-written.result c.into_account-report.result c.print_written.result c.into_account-report.ensures c.write_outputs-written.ensures c.print_written.ensures
