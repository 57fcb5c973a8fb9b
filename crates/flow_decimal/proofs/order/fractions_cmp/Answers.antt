use Rattle.std.proofs.Common.{◌^◌, arith}
use Rattle.std.specs.Prelude.{pos, ◌≤ℤ◌}
use Rattle.std.proofs.lemmas.Int.{ints}
use Rattle.flow_decimal.specs.Order.{ten_pos}
use Rattle.flow_decimal.proofs.Comparing.{down-up, up-down}
use Rattle.flow_decimal.proofs.order.fractions_cmp.Goals.{else-a-lt0-via-then-a-lt0+else-b-lt0, else-a-lt0-via-else-a-lt0}
use Rattle.flow_decimal.proofs.order.fractions_cmp.Goals as goal

pub returns-then-a-lt0-2 : goal.returns-then-a-lt0-2
returns-then-a-lt0-2 c =
    let a = c.args.a.now in
    let b = c.args.b.now in
    let up : pos 0 ≤ℤ b.whole = elim c.else-a-lt0.branch [ else-a-lt0-via-then-a-lt0+else-b-lt0 w ↦ omega (arith, ints) | else-a-lt0-via-else-a-lt0 w ↦ absurd (omega (arith, ints)) ] in
    down-up a.whole b.whole (10 ^ b.fraction) (10 ^ a.fraction) (ten_pos b.fraction) (omega (arith, ints)) up

pub returns-then-b-lt0-2 : goal.returns-then-b-lt0-2
returns-then-b-lt0-2 c =
    let a = c.args.a.now in
    let b = c.args.b.now in
    up-down a.whole b.whole (10 ^ b.fraction) (10 ^ a.fraction) (ten_pos a.fraction) (omega (arith, ints)) (omega (arith, ints))
