use Rattle.std.proofs.Common.{ap, ◌∙◌, length, arith, lit<, Err}
use Rattle.std.proofs.lemmas.Fmt.{length-decimal-le}
use Rattle.flow_parts.proofs.count.Count.tell.Goals as goal

pub unreachable-requires : goal.unreachable-requires
unreachable-requires c =
    let short = length-decimal-le 20 c.self.inside.number (lit< tt) (let l = c.self.invariant in omega arith) (let l = c.self.invariant in omega arith) in
    let long = (c.in-Err-TextLimit.ensures.text_limit c.in-Err-TextLimit.field-0-0).0 (ap Err c.in-Err-TextLimit.field-0-is) in
    let same = ap length (c.as_bytes.ensures.value ∙ c.in-Ok.ensures.ok) in
    omega (arith, long.1, same, short)
