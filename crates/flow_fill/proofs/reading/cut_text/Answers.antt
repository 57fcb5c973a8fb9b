use Rattle.flow_fill.proofs.Quotes.{text_read}
use Rattle.flow_fill.proofs.reading.cut_text.Goals as goal

pub returns : goal.returns
returns c = text_read c.args.bytes.now c.in_ok-found.found c.in_ok-found.ensures
