use Rattle.std.proofs.Common.{rules, ◌≡◌, true, arith}
use Rattle.std.proofs.lemmas.Grind.{common_steps}
use Rattle.flow_decimal.specs.Numbers.{is_numeral}
use Rattle.flow_decimal.proofs.Readings.{whole-small, whole-large}
use Rattle.flow_decimal.proofs.reading.whole.Goals as goal

pub returns-in-Some : goal.returns-in-Some
returns-in-Some c =
    let is : is_numeral c.args.digits.now ≡ true = first_of (search rules, grind (arith, common_steps)) in
    whole-small c.args.digits.now c.in-Some.size c.requires.whole is c.in-Some.ensures.0 c.in-Some.ensures.1

pub returns-in-None : goal.returns-in-None
returns-in-None c =
    let is : is_numeral c.args.digits.now ≡ true = first_of (search rules, grind (arith, common_steps)) in
    whole-large c.args.digits.now c.requires.whole is c.in-None.ensures
