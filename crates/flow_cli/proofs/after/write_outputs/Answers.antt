use Rattle.std.proofs.lemmas.Result.{err_from_is_err_and}
use Rattle.flow_cli.specs.Top.{outputs_of_run}
use Rattle.flow_load.proofs.Writings.{nothing-written}
use Rattle.flow_cli.proofs.after.write_outputs.Goals as goal

pub returns-in_err-outputs : goal.returns-in_err-outputs
returns-in_err-outputs g c =
    let p = err_from_is_err_and c.from_residual.result c.from_residual.ensures.1 in
    rw (p.1, p.2) (nothing-written (g.F.Edge.outside c.args.shelf.now) (outputs_of_run c.args.run.now))

pub returns-in_err-add_kept : goal.returns-in_err-add_kept
returns-in_err-add_kept g c =
    let p = err_from_is_err_and c.from_residual-in_err-add_kept.result c.from_residual-in_err-add_kept.ensures.1 in
    rw (p.1, p.2) (nothing-written (g.F.Edge.outside c.args.shelf.now) (outputs_of_run c.args.run.now))

pub returns-in_err-add_kept-2 : goal.returns-in_err-add_kept-2
returns-in_err-add_kept-2 g c =
    let p = err_from_is_err_and c.from_residual-in_err-add_kept-2.result c.from_residual-in_err-add_kept-2.ensures.1 in
    rw (p.1, p.2) (nothing-written (g.F.Edge.outside c.args.shelf.now) (outputs_of_run c.args.run.now))

pub returns-in_err-add_report : goal.returns-in_err-add_report
returns-in_err-add_report g c =
    let p = err_from_is_err_and c.from_residual-in_err-add_report.result c.from_residual-in_err-add_report.ensures.1 in
    rw (p.1, p.2) (nothing-written (g.F.Edge.outside c.args.shelf.now) (outputs_of_run c.args.run.now))
