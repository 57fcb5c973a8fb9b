use Rattle.std.proofs.Common.{drop, map, ◌+◌, ◌++◌}
use Rattle.flow_parse.proofs.Heeding.{next_line}
use Rattle.flow_fill.specs.Filling.{text_of}
use Rattle.flow_fill.proofs.Steps.{lines_on}
use Rattle.flow_fill.proofs.used.put_lines.Goals as goal

pub lines-preserved : goal.lines-preserved
lines-preserved c =
    let rows = map (λ line. line.items) c.args.lines.now in
    let cut = next_line c.args.lines.now c.lines.line-index c.line-item.result c.as_slice.result.now c.lines-test.true c.line-item.is c.as_slice.ensures.value in
    lines_on (drop c.lines.line-index rows) (drop (c.lines.line-index + 1) rows) c.as_slice.result.now (c.args.out.now.items ++ text_of rows) c.lines.out.items c.put_line.new.out.items c.lines.invariant cut c.in_ok-put_line.ensures
