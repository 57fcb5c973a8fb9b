use Rattle.std.proofs.Common.{drop, map, ◌+◌, arith}
use Rattle.flow_parse.proofs.Heeding.{next_line}
use Rattle.flow_fill.specs.Filling.{words_in}
use Rattle.flow_fill.proofs.Steps.{words_on}
use Rattle.flow_fill.proofs.rows.words_of_lines.Goals as goal

pub lines-preserved : goal.lines-preserved
lines-preserved c =
    let rows = map (λ line. line.items) c.args.lines.now in
    let cut = next_line c.args.lines.now c.lines.i c.index-lines-i.result c.as_slice-line.result.now c.lines-test.true c.index-lines-i.is c.as_slice-line.ensures.value in
    words_on (c.lines.i + 1) (c.lines.i + 1 + 1) c.lines.place c.after-place.result (drop c.lines.i rows) (drop (c.lines.i + 1) rows) c.as_slice-line.result.now (words_in rows) c.lines.words.items c.add_words.new.words.items
    c.lines.invariant cut c.in_ok-add_words.ensures c.after-place.ensures (omega arith)
