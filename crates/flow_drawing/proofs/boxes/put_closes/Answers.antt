use Rattle.flow_drawing.proofs.Opening.{closes-more}
use Rattle.flow_drawing.proofs.boxes.put_closes.Goals as goal

pub loop-done-preserved : goal.loop-done-preserved
loop-done-preserved c = closes-more c.args.rows.now c.loop-done.rows c.push.new.self c.loop-done.done c.loop-done.invariant c.in_ok-push.ensures.ok
