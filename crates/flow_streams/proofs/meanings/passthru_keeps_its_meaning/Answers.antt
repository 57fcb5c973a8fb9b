use Rattle.flow_streams.proofs.PassthruStream.{passthru_meaning}
use Rattle.flow_streams.proofs.meanings.passthru_keeps_its_meaning.Goals as goal

pub returns : goal.returns
returns c = passthru_meaning
