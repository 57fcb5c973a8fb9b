use Rattle.flow_machine.proofs.Sending.{last-id}
use Rattle.flow_machine.proofs.body.effect.take_in.Goals as goal

pub returns-clause-id : goal.returns-clause-id
returns-clause-id c = last-id c.args.hands.now.packets c.args.packet c.last_id.result (rw (c.packets.ensures.packets, c.put.ensures) at c.last_id.ensures)
