use Rattle.std.proofs.Common.{sym, ◌∙◌}
use Rattle.std.proofs.lemmas.Result.{err_from_is_err_and}
use Rattle.flow_tape.proofs.Counting.{name_stops, number_stops, tapes_stop, more_behind, so_many_there}
use Rattle.flow_tape.proofs.count.count_all.Goals as goal

pub returns-in_err-rest : goal.returns-in_err-rest
returns-in_err-rest c =
    let p = err_from_is_err_and c.from_residual.result c.from_residual.ensures.1 in
    rw (p.1, p.2) (name_stops c.in_err-rest.field-0.0 c.args.bytes.now c.in_err-rest.ensures)

pub returns-in_err-count : goal.returns-in_err-count
returns-in_err-count c =
    let p = err_from_is_err_and c.from_residual-in_err-count.result c.from_residual-in_err-count.ensures.1 in
    rw (p.1, p.2) (number_stops c.in_err-count.field-0.0 c.args.bytes.now c.in_ok-rest.rest.now c.in_ok-rest.ensures c.in_err-count.ensures)

pub returns-in_err-rest-2 : goal.returns-in_err-rest-2
returns-in_err-rest-2 c =
    let p = err_from_is_err_and c.from_residual-in_err-rest-2.result c.from_residual-in_err-rest-2.ensures.1 in
    rw (p.1, p.2) (tapes_stop c.in_err-rest-2.field-0.0 c.args.bytes.now c.in_ok-rest.rest.now c.in_ok-count.rest.now c.in_ok-count.count c.in_ok-rest.ensures c.in_ok-count.ensures c.in_err-rest-2.ensures)

pub returns-then-not-is_empty : goal.returns-then-not-is_empty
returns-then-not-is_empty c =
    more_behind c.args.bytes.now c.in_ok-rest.rest.now c.in_ok-count.rest.now c.in_ok-rest-2.rest.now c.in_ok-count.count c.in_ok-rest.ensures c.in_ok-count.ensures c.in_ok-rest-2.ensures (sym c.is_empty.ensures ∙ c.if-not-is_empty.true)

pub returns : goal.returns
returns c =
    so_many_there c.args.bytes.now c.in_ok-rest.rest.now c.in_ok-count.rest.now c.in_ok-rest-2.rest.now c.in_ok-count.count c.in_ok-rest.ensures c.in_ok-count.ensures c.in_ok-rest-2.ensures (sym c.is_empty.ensures ∙ c.if-not-is_empty.false)
