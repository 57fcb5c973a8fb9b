use Rattle.flow_batch.proofs.Amounts.{amount-read}
use Rattle.flow_batch.proofs.records.amount.Goals as goal

pub returns-clause-value : goal.returns-clause-value
returns-clause-value c = amount-read c.args.bytes.now c.decimal.result c.decimal.ensures
