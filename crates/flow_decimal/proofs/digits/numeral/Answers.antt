use Rattle.flow_decimal.proofs.Numerals.{numeral-utf8, not-parsed}
use Rattle.flow_decimal.proofs.digits.numeral.Goals as goal

pub unreachable-requires : goal.unreachable-requires
unreachable-requires c = c.in_default.ensures.cases.0 (numeral-utf8 c.args.digits.now c.requires.digits)

pub returns-in-Err : goal.returns-in-Err
returns-in-Err c = not-parsed c.args.digits.now c.in-Ok.text.now c.requires.digits c.in-Ok.ensures.cases.0 c.in-Err.ensures.value.0
