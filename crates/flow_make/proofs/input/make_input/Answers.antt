use Rattle.std.proofs.Common.{◌≡◌, ◌*◌, arith}
use Rattle.flow_make.specs.Input.{lines_for_one}
use Rattle.flow_make.proofs.Words.{none_put, place_first, line_added, place_after, all_put}
use Rattle.flow_make.proofs.input.make_input.Goals as goal

pub lines-init : goal.lines-init
lines-init c = record { put = none_put c.args.number c.new-out.result.items c.new-out.ensures.items; at = place_first c.args.number }

pub lines-preserved : goal.lines-preserved
lines-preserved c =
    let number = c.args.number in
    let count = c.lines.counter in
    let at = c.lines.numbers.number in
    let now = c.lines.invariant in
    record {
      put = line_added number count at c.lines.out.items c.put_line.new.out.items now.put now.at c.in_ok-put_line.ensures.line;
      at = place_after number count at c.put_line.new.numbers.number now.at c.in_ok-put_line.ensures.after;
    }

pub returns : goal.returns
returns c =
    let all : c.lines.counter ≡ c.args.number * lines_for_one = omega arith in
    all_put c.args.number c.lines.counter c.lines.out.items all c.lines.invariant.put
