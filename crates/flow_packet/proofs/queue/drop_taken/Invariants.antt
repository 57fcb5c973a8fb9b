use Rattle.std.proofs.Common.{◌≡◌, ◌-◌, ◌++◌, drop, take}
use Rattle.flow_packet.proofs.queue.drop_taken.Given as goal

abbrev pub invariant-loop : goal.invariant-loop
invariant-loop l = l.packets.items ≡ drop l.taken l.fn.packets.items ++ take (l.taken - l.counter) l.fn.packets.items
