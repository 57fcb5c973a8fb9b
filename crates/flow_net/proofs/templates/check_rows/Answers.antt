use Rattle.std.proofs.Common.{Ok, Err}
use Rattle.std.proofs.lemmas.List.{drop_all}
use Rattle.std.proofs.lemmas.List.Elements.{All-nil}
use Rattle.std.proofs.lemmas.Result.{err_from_is_err_and}
use Rattle.flow_plan.specs.Templates.{Fits}
use Rattle.flow_net.proofs.TemplateChecks.{Checked-next_row, Checked-bad_row}
use Rattle.flow_net.proofs.templates.check_rows.Goals as goal

pub loop-place-preserved : goal.loop-place-preserved
loop-place-preserved c =
    λ outcome rest. c.loop-place.invariant outcome (Checked-next_row c.args.process.now _ _ c.index-rows-place.result outcome c.loop-place-test.true c.index-rows-place.is c.in_ok-check_row.ensures rest)

pub returns-in_err-check_row : goal.returns-in_err-check_row
returns-in_err-check_row c =
    let p = err_from_is_err_and c.from_residual.result c.from_residual.ensures.1 in
    rw (p.1, p.2) (c.loop-place.invariant (Err _) (Checked-bad_row c.args.process.now _ _ c.index-rows-place.result _ c.loop-place-test.true c.index-rows-place.is c.in_err-check_row.ensures))

pub returns : goal.returns
returns c = c.loop-place.invariant (Ok tt) (rw (drop_all c.loop-place.place c.args.rows.now c.loop-place-test.false) (All-nil Fits))
