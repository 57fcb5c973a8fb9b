use Rattle.std.proofs.lemmas.Result.{err_from_is_err_and}
use Rattle.flow_own.proofs.Passes.{answer_stops, made_stops, dropped_stops, end_stops, entry_there}
use Rattle.flow_own.proofs.pass.pass_entry.Goals as goal

pub returns-in-Err : goal.returns-in-Err
returns-in-Err c = answer_stops c.in-Err.stop c.args.bytes.now c.in-Err.ensures

pub returns-in_err-rest : goal.returns-in_err-rest
returns-in_err-rest c =
    let p = err_from_is_err_and c.from_residual.result c.from_residual.ensures.1 in
    rw (p.1, p.2) (made_stops c.in_err-rest.field-0.0 c.args.bytes.now c.in-Ok.rest.now c.in-Ok.field-0-0 c.in-Ok.ensures c.in_err-rest.ensures)

pub returns-in_err-rest-2 : goal.returns-in_err-rest-2
returns-in_err-rest-2 c =
    let p = err_from_is_err_and c.from_residual-in_err-rest-2.result c.from_residual-in_err-rest-2.ensures.1 in
    rw (p.1, p.2) (dropped_stops c.in_err-rest-2.field-0.0 c.args.bytes.now c.in-Ok.rest.now c.in_ok-rest.rest.now c.in-Ok.field-0-0 c.in-Ok.ensures c.in_ok-rest.ensures c.in_err-rest-2.ensures)

pub returns-in-Ok-end_of : goal.returns-in-Ok-end_of
returns-in-Ok-end_of c =
    entry_there c.args.bytes.now c.in-Ok.rest.now c.in_ok-rest.rest.now c.in_ok-rest-2.rest.now c.in-Ok-end_of.rest.now c.in-Ok.field-0-0 c.in-Ok-end_of.field-0-0 c.in-Ok.ensures c.in_ok-rest.ensures c.in_ok-rest-2.ensures c.in-Ok-end_of.ensures

pub returns-in-Err-end_of : goal.returns-in-Err-end_of
returns-in-Err-end_of c =
    end_stops c.in-Err-end_of.stop c.args.bytes.now c.in-Ok.rest.now c.in_ok-rest.rest.now c.in_ok-rest-2.rest.now c.in-Ok.field-0-0 c.in-Ok.ensures c.in_ok-rest.ensures c.in_ok-rest-2.ensures c.in-Err-end_of.ensures
