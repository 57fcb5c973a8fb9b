use Rattle.std.proofs.Common.{◌∙◌, sym, bytes_eq, arith}
use Rattle.std.specs.List.{common_prefix_len}
use Rattle.std.proofs.lemmas.List.Sums.{common_prefix_len-le}
use Rattle.flow_drawing.proofs.Opening.{common-all, common-here, common-more}
use Rattle.flow_drawing.proofs.boxes.common.Goals as goal

pub loop-place-preserved : goal.loop-place-preserved
loop-place-preserved c = common-more c.args.opened.now c.args.boxes.now c.loop-place.place _ (sym c.agrees.ensures ∙ c.if-not-agrees.false) c.loop-place.invariant

pub returns-then-not-agrees : goal.returns-then-not-agrees
returns-then-not-agrees c =
    let whole = common_prefix_len bytes_eq c.args.opened.now c.args.boxes.now in
    let is = common-here c.args.opened.now c.args.boxes.now c.loop-place.place whole (sym c.agrees.ensures ∙ c.if-not-agrees.true) c.loop-place.invariant in
    let most = common_prefix_len-le bytes_eq c.args.opened.now c.args.boxes.now in
    record { same = is; opened = omega (arith, is, most.0); boxes = omega (arith, is, most.1) }

pub returns : goal.returns
returns c =
    let whole = common_prefix_len bytes_eq c.args.opened.now c.args.boxes.now in
    let is = common-all c.args.opened.now c.args.boxes.now c.loop-place.place whole c.loop-place-test.false c.loop-place.invariant in
    let most = common_prefix_len-le bytes_eq c.args.opened.now c.args.boxes.now in
    record { same = omega (arith, is); opened = omega arith; boxes = omega (arith, is, most.1) }
