use Rattle.std.proofs.Common.{drop, map, ◌+◌}
use Rattle.flow_parse.proofs.Heeding.{next_line}
use Rattle.flow_fill.specs.Joining.{used_in}
use Rattle.flow_fill.proofs.Steps.{used_on}
use Rattle.flow_fill.proofs.used.used_of_lines.Goals as goal

pub lines-preserved : goal.lines-preserved
lines-preserved c =
    let rows = map (λ line. line.items) c.args.lines.now in
    let cut = next_line c.args.lines.now c.lines.line-index c.line-item.result c.as_slice-line.result.now c.lines-test.true c.line-item.is c.as_slice-line.ensures.value in
    used_on c.lines.place c.after-place.result (drop c.lines.line-index rows) (drop (c.lines.line-index + 1) rows) c.as_slice-line.result.now (used_in rows) c.lines.files.items c.add_used.new.files.items
    c.lines.invariant cut c.in_ok-add_used.ensures c.after-place.ensures
