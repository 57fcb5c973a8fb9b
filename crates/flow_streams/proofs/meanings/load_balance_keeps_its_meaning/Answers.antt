use Rattle.flow_streams.proofs.LoadStream.{load_meaning}
use Rattle.flow_streams.proofs.meanings.load_balance_keeps_its_meaning.Goals as goal

pub returns : goal.returns
returns c = load_meaning
