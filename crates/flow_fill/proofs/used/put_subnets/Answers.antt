use Rattle.std.proofs.Common.{drop, map, ◌+◌, ◌++◌, false}
use Rattle.flow_parse.proofs.Heeding.{next_line}
use Rattle.flow_fill.specs.Filling.{text_of}
use Rattle.flow_fill.specs.Joining.{subnet_rows}
use Rattle.flow_fill.proofs.Steps.{subnets_on}
use Rattle.flow_fill.proofs.used.put_subnets.Goals as goal

pub lines-preserved : goal.lines-preserved
lines-preserved c =
    let rows = map (λ line. line.items) c.args.lines.now in
    let cut = next_line c.args.lines.now c.lines.line-index c.line-item.result c.as_slice-line.result.now c.lines-test.true c.line-item.is c.as_slice-line.ensures.value in
    subnets_on c.lines.within c.is_within_after-within.result (drop c.lines.line-index rows) (drop (c.lines.line-index + 1) rows) c.as_slice-line.result.now (c.args.out.now.items ++ text_of (subnet_rows false rows)) c.lines.out.items c.put_row.new.out.items
    c.lines.invariant cut c.in_ok-put_row.ensures c.is_within_after-within.ensures
