use Rattle.flow_drawing.proofs.Opening.{boxes-more}
use Rattle.flow_drawing.proofs.boxes.boxes_of.Goals as goal

pub loop-place-preserved : goal.loop-place-preserved
loop-place-preserved c = boxes-more c.args.name.now c.loop-place.place c.loop-place.boxes.items c.put_box.new.boxes.items c.loop-place.invariant c.in_ok-put_box.ensures
