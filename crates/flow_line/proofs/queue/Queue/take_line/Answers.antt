use Rattle.flow_line.proofs.Both.{hears_and_sends_as}
use Rattle.flow_line.proofs.queue.Queue.take_line.Goals as goal

pub returns-clause-takes : goal.returns-clause-takes
returns-clause-takes g c = hears_and_sends_as _ _ _ _ _ _ _ _ _ _ c.in-Some.ensures c.in_default-drop_packet.ensures.ok c.in_default-hear_line.ensures c.send-said.ensures.sends
