use Rattle.flow_rounds.proofs.Mimicry.{writes-as-whole}
use Rattle.flow_rounds.proofs.law.a_writer_of_pieces_writes_the_whole_file.Goals as goal

pub returns : goal.returns
returns c = writes-as-whole
