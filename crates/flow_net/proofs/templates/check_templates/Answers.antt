use Rattle.std.proofs.Common.{◌≡◌, Ok, Err, subst, ℕ, List, drop}
use Rattle.std.specs.Slice.Iter.{iter_rest}
use Rattle.std.specs.Iterator.Adapters.{zip_first, zip_second}
use Rattle.std.proofs.lemmas.List.{length_push}
use Rattle.std.proofs.lemmas.Slice.Zip.{zip_turn, zip_end}
use Rattle.std.proofs.lemmas.Result.{err_from_is_err_and}
use Rattle.std.specs.List.{All}
use Rattle.flow_plan.specs.declared.plan.PortRow.{PortRow}
use Rattle.flow_plan.specs.Templates.{Fits, templates_in}
use Rattle.flow_net.specs.Finishes.{RowsHaveTemplates, HaveTemplates}
use Rattle.flow_net.proofs.TemplateChecks.{HaveTemplates-next, HaveTemplates-bad, HaveTemplates-end}
use Rattle.flow_net.proofs.templates.check_templates.Goals as goal

pub loop-process-preserved : goal.loop-process-preserved
loop-process-preserved c =
    let first : iter_rest (zip_first c.into_iter-process-iterator.result) ≡ c.args.processes.now = cc in
    let second : iter_rest (zip_second c.into_iter-process-iterator.result) ≡ c.args.tables.now = cc in
    let t = zip_turn c.args.processes.now c.args.tables.now c.loop-process.yielded c.into_iter-process-iterator.result c.loop-process.process-iterator c.next.new.self c.next.result first second c.loop-process.yielded_by (c.in-Some.process, c.in-Some.table) c.in-Some.is c.next.ensures.steps in
    λ outcome rest.
    c.loop-process.invariant outcome
    (HaveTemplates-next _ _ _ c.in-Some.process.now c.in-Some.table.now outcome t.0 t.1 (t.2 _) (t.3 _)
    (subst (λ (rows : List PortRow). All Fits (templates_in c.in-Some.process.now 0 rows)) c.as_slice.ensures c.in_ok-check_rows.ensures)
    (subst (λ (m : ℕ). HaveTemplates (drop m c.args.processes.now) (drop m c.args.tables.now) outcome) (length_push c.loop-process.yielded (c.in-Some.process, c.in-Some.table)) rest))

pub returns-in_err-check_rows : goal.returns-in_err-check_rows
returns-in_err-check_rows c =
    let first : iter_rest (zip_first c.into_iter-process-iterator.result) ≡ c.args.processes.now = cc in
    let second : iter_rest (zip_second c.into_iter-process-iterator.result) ≡ c.args.tables.now = cc in
    let t = zip_turn c.args.processes.now c.args.tables.now c.loop-process.yielded c.into_iter-process-iterator.result c.loop-process.process-iterator c.next.new.self c.next.result first second c.loop-process.yielded_by (c.in-Some.process, c.in-Some.table) c.in-Some.is c.next.ensures.steps in
    let p = err_from_is_err_and c.from_residual.result c.from_residual.ensures.1 in
    rw (p.1, p.2) (c.loop-process.invariant (Err _) (HaveTemplates-bad _ _ _ c.in-Some.process.now c.in-Some.table.now _ t.0 t.1 (t.2 _) (t.3 _)
    (subst (λ (rows : List PortRow). RowsHaveTemplates c.in-Some.process.now rows (Err c.in_err-check_rows.field-0.0)) c.as_slice.ensures c.in_err-check_rows.ensures)))

pub returns : goal.returns
returns c =
    let first : iter_rest (zip_first c.into_iter-process-iterator.result) ≡ c.args.processes.now = cc in
    let second : iter_rest (zip_second c.into_iter-process-iterator.result) ≡ c.args.tables.now = cc in
    let ended = zip_end c.args.processes.now c.args.tables.now c.loop-process.yielded c.into_iter-process-iterator.result c.loop-process.process-iterator c.next.new.self c.next.result first second c.loop-process.yielded_by c.in-None.is c.next.ensures.steps in
    c.loop-process.invariant (Ok tt) (HaveTemplates-end _ _ _ ended)
