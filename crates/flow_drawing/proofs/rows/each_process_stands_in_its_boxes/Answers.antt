use Rattle.flow_drawing.proofs.Stands.{stand-in-boxes}
use Rattle.flow_drawing.proofs.rows.each_process_stands_in_its_boxes.Goals as goal

pub returns : goal.returns
returns c = stand-in-boxes
