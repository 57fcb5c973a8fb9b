use Rattle.std.proofs.Common.{drop, map, ◌+◌, sym, ◌∙◌}
use Rattle.flow_parse.proofs.Heeding.{next_line}
use Rattle.flow_fill.proofs.Steps.{third_here, third_on}
use Rattle.flow_fill.proofs.rows.third.Goals as goal

pub returns-then-not-remark : goal.returns-then-not-remark
returns-then-not-remark c =
    let rows = map (λ line. line.items) c.args.lines.now in
    let cut = next_line c.args.lines.now c.lines.line-index c.line-item.result c.as_slice-line.result.now c.lines-test.true c.line-item.is c.as_slice-line.ensures.value in
    c.header.ensures ∙ sym (third_here rows (drop c.lines.line-index rows) (drop (c.lines.line-index + 1) rows) c.as_slice-line.result.now c.lines.invariant cut (sym c.remark.ensures ∙ c.if-not-remark.true))

pub lines-preserved : goal.lines-preserved
lines-preserved c =
    let rows = map (λ line. line.items) c.args.lines.now in
    let cut = next_line c.args.lines.now c.lines.line-index c.line-item.result c.as_slice-line.result.now c.lines-test.true c.line-item.is c.as_slice-line.ensures.value in
    third_on rows (drop c.lines.line-index rows) (drop (c.lines.line-index + 1) rows) c.as_slice-line.result.now c.lines.invariant cut (sym c.remark.ensures ∙ c.if-not-remark.false)
