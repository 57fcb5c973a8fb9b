use Rattle.std.proofs.Common.{rules, ◌≡◌, false, arith}
use Rattle.std.proofs.lemmas.Grind.{common_steps}
use Rattle.flow_decimal.specs.Numbers.{is_numeral}
use Rattle.flow_decimal.proofs.Readings.{pointed-no-back}
use Rattle.flow_decimal.proofs.reading.pointed.Goals as goal

pub returns-then-not-is_numeral-2 : goal.returns-then-not-is_numeral-2
returns-then-not-is_numeral-2 c =
    let none : is_numeral c.behind_place-back.result.now ≡ false = first_of (cc, search rules, grind (arith, common_steps)) in
    pointed-no-back c.args.text.now c.behind_place-back.result.now c.args.point c.requires.pointed c.behind_place-back.ensures none
