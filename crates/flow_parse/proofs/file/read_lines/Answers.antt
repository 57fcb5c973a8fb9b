use Rattle.std.proofs.Common.{map}
use Rattle.std.proofs.lemmas.Result.{err_from_is_err_and}
use Rattle.flow_parse.proofs.Heeding.{next_line, one_line_on, stops_at}
use Rattle.flow_parse.proofs.file.read_lines.Goals as goal

pub returns-in_err-line : goal.returns-in_err-line
returns-in_err-line c =
    let p = err_from_is_err_and c.from_residual.result c.from_residual.ensures.1 in
    let cut = next_line c.args.lines.now c.lines.i c.index-lines-i.result c.as_slice.result.now c.lines-test.true c.index-lines-i.is c.as_slice.ensures.value in
    rw (p.1, p.2) (stops_at c.lines.reader c.line.new.self c.lines.i c.as_slice.result.now (map (λ row. row.items) c.args.lines.now) c.in_err-line.field-0.0 cut c.in_err-line.ensures c.lines.invariant)

pub lines-preserved : goal.lines-preserved
lines-preserved c =
    let cut = next_line c.args.lines.now c.lines.i c.index-lines-i.result c.as_slice.result.now c.lines-test.true c.index-lines-i.is c.as_slice.ensures.value in
    one_line_on c.lines.reader c.line.new.self c.lines.i c.as_slice.result.now (map (λ row. row.items) c.args.lines.now) cut c.in_ok-line.ensures c.lines.invariant
