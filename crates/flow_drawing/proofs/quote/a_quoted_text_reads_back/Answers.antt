use Rattle.flow_drawing.proofs.Reading.{quoted-back}
use Rattle.flow_drawing.proofs.quote.a_quoted_text_reads_back.Goals as goal

pub returns : goal.returns
returns c = quoted-back
