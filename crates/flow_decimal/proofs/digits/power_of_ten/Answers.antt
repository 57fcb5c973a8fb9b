use Rattle.flow_decimal.proofs.Scaling.{power-large}
use Rattle.flow_decimal.proofs.digits.power_of_ten.Goals as goal

pub returns-then-exponent-gt38 : goal.returns-then-exponent-gt38
returns-then-exponent-gt38 c = power-large c.args.exponent c.if-exponent-gt38.true
