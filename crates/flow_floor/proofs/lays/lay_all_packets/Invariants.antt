use Rattle.std.proofs.Common.{◌≡◌, ◌++◌, length, map, take, drop}
use Rattle.flow_floor.specs.Opening.{emptied}
use Rattle.flow_floor.specs.Laying.{AreLaid, AreSameBelow}
use Rattle.flow_floor.proofs.lays.lay_all_packets.Given as goal

-- so many connections have their packets in their cells
abbrev pub invariant-loop-connection : goal.invariant-loop-connection
invariant-loop-connection g l = record {
  channels : l.channels.items ≡ map emptied (take l.connection l.fn.channels.items) ++ drop l.connection l.fn.channels.items;
  laid : AreLaid l.layout.processes l.layout.capacities.items l.fn.channels.items l.connection l.slots.items;
  bodies : AreSameBelow l.layout.processes l.fn.slots.items l.slots.items;
  deep : length l.slots.items ≡ length l.fn.slots.items;
}
