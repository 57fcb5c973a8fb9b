use Rattle.flow_decimal.proofs.Summing.{either-way}
use Rattle.flow_decimal.proofs.decimal.Decimal.checked_add.Goals as goal

pub returns : goal.returns
returns c = either-way c.with_shorter-2.result c.args.self.now c.args.other.now c.with_shorter-2.ensures
