use Rattle.std.proofs.Common.{◌≤◌, arith, length}
use Rattle.std.specs.List.{slice_split}
use Rattle.std.proofs.lemmas.Bool.Decides.{nat_tests}
use Rattle.std.proofs.lemmas.List.Splits.{length-slice_split}
use Rattle.flow_net.proofs.Spaces.{ends}
use Rattle.flow_net.proofs.options.is_fields.Goals as goal

pub returns-then-spaces-lt8 : goal.returns-then-spaces-lt8
returns-then-spaces-lt8 c =
    let parts : length (slice_split ends c.args.text.now) ≤ 8 = omega (arith, length-slice_split ends c.args.text.now, c.spaces.ensures, c.if-spaces-lt8.true) in
    (λ t. (parts, c.all_lengths.ensures.0 t), λ both. c.all_lengths.ensures.1 both.1)

pub returns-else-spaces-lt8 : goal.returns-else-spaces-lt8
returns-else-spaces-lt8 c =
    (λ f. absurd (grind (arith, nat_tests, f, c.if-spaces-lt8.false)), λ both. absurd (omega (arith, both.0, length-slice_split ends c.args.text.now, c.spaces.ensures, c.if-spaces-lt8.false)))
