use Rattle.std.proofs.Common.{ap, ◌∙◌, arith, Err}
use Rattle.flow_group.proofs.group.make_bracket.Goals as goal

pub unreachable-requires : goal.unreachable-requires
unreachable-requires c =
    let long = (c.make.ensures.text_limit c.in-Err-TextLimit.field-0-0).0 (c.in-Err-TextLimit.is ∙ ap Err c.in-Err-TextLimit.field-0-is) in
    omega (arith, long.1, c.requires.short)
