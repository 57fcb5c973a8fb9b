use Rattle.std.proofs.Common.{arith}
use Rattle.flow_tape.proofs.FieldReaders.{all-bytes}
use Rattle.flow_tape.proofs.file.put_text.Goals as goal

pub returns-clause-whole : goal.returns-clause-whole
returns-clause-whole c = all-bytes c.args.text.now (λ i. omega (arith, c.type_inv.text i))
