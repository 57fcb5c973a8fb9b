use Rattle.std.proofs.Common.{List, Ok, Err, subst}
use Rattle.std.proofs.lemmas.Result.{err_from_is_err_and}
use Rattle.std.specs.List.{filter_map}
use Rattle.flow_parse.specs.declared.value.Statement.{Statement}
use Rattle.flow_flat.specs.Subnets.{statement_meant}
use Rattle.flow_flat.specs.Told.{AfterMeant}
use Rattle.flow_expand.specs.Outcomes.{Leaves}
use Rattle.flow_expand.proofs.Telling.{goes_one, stops_one, all_told}
use Rattle.flow_expand.proofs.statements.put_statements.Goals as goal

pub statements-preserved : goal.statements-preserved
statements-preserved c = goes_one (statement_meant c.args.text.now c.args.prefix.now c.args.part.now) c.as_slice-statements.result.now c.statements.statement-index c.args.builder.now c.statements.builder c.statements.invariant c.statement-item.result c.put_statement.new.builder c.statements-test.true c.statement-item.is c.in_ok-put_statement.ensures

pub returns-in_err-put_statement : goal.returns-in_err-put_statement
returns-in_err-put_statement c =
    let p = err_from_is_err_and c.from_residual.result c.from_residual.ensures.1 in
    rw (p.1, p.2) (subst (λ (l : List Statement). Leaves (Err c.in_err-put_statement.field-0.0) c.put_statement.new.builder (λ outcome. AfterMeant c.args.builder.now (filter_map (statement_meant c.args.text.now c.args.prefix.now c.args.part.now) l) outcome)) c.as_slice-statements.ensures
    (stops_one (statement_meant c.args.text.now c.args.prefix.now c.args.part.now) c.as_slice-statements.result.now c.statements.statement-index c.args.builder.now c.statements.builder c.statements.invariant c.statement-item.result c.put_statement.new.builder c.in_err-put_statement.field-0.0 c.statements-test.true c.statement-item.is c.in_err-put_statement.ensures))

pub returns : goal.returns
returns c = subst (λ (l : List Statement). AfterMeant c.args.builder.now (filter_map (statement_meant c.args.text.now c.args.prefix.now c.args.part.now) l) (Ok c.statements.builder)) c.as_slice-statements.ensures (all_told (statement_meant c.args.text.now c.args.prefix.now c.args.part.now) c.as_slice-statements.result.now c.statements.statement-index c.args.builder.now c.statements.builder c.statements.invariant c.statements-test.false)
