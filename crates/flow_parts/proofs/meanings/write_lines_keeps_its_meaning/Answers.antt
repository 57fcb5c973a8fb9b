use Rattle.flow_parts.proofs.WriteLinesStream.{write_lines_meaning}
use Rattle.flow_parts.proofs.meanings.write_lines_keeps_its_meaning.Goals as goal

pub returns : goal.returns
returns c = write_lines_meaning
