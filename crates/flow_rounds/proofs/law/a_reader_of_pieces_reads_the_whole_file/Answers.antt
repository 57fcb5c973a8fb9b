use Rattle.flow_rounds.proofs.Mimicry.{reads-as-whole}
use Rattle.flow_rounds.proofs.law.a_reader_of_pieces_reads_the_whole_file.Goals as goal

pub returns : goal.returns
returns c = reads-as-whole
