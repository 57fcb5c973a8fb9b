use Rattle.flow_supply.proofs.Options.{number-given}
use Rattle.flow_supply.proofs.asked.Asked.number.Goals as goal

pub returns-in-Some-clause-given : goal.returns-in-Some-clause-given
returns-in-Some-clause-given c = λ port least most is class few. number-given port least most c.in-Some.text.now c.decimal.result (c.in-Some.ensures.given port is) class few c.decimal.ensures

pub returns-in-None-clause-given : goal.returns-in-None-clause-given
returns-in-None-clause-given c = λ port least most is class few. c.in-None.ensures.given port is
