use Rattle.std.proofs.Common.{ap, Err, arith}
use Rattle.flow_streams.proofs.collate.make_bracket.Goals as goal

pub unreachable-requires : goal.unreachable-requires
unreachable-requires c =
    let k = (c.in-Err-TextLimit.ensures.text_limit c.in-Err-TextLimit.field-0-0).0 (ap Err c.in-Err-TextLimit.field-0-is) in
    omega (arith, k.0, k.1)
