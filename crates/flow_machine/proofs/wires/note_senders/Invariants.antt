use Rattle.std.proofs.Common.{◌≡◌, drop}
use Rattle.flow_machine.specs.Wires.{all_noted}
use Rattle.flow_machine.proofs.wires.note_senders.Given as goal

abbrev pub invariant-loop-sender : goal.invariant-loop-sender
invariant-loop-sender l = all_noted l.rows (drop l.sender-index l.senders) l.connection ≡ all_noted l.fn.rows l.fn.senders l.connection
