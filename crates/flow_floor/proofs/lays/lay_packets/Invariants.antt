use Rattle.std.proofs.Common.{◌≡◌, ◌-◌, length, take, drop}
use Rattle.flow_floor.specs.Opening.{AreSameButCells, HasCells}
use Rattle.flow_floor.proofs.lays.lay_packets.Given as goal

-- the packets of the places before this one lie in their cells
abbrev pub invariant-loop-place : goal.invariant-loop-place
invariant-loop-place g l = record {
  left : l.channel ≡ record l.fn.channel { packets = drop (l.place - l.fn.channel.takes) l.fn.channel.packets; takes = l.place };
  cells : HasCells l.layout.processes l.layout.capacities.items l.slots.items l.connection l.fn.channel.takes (take (l.place - l.fn.channel.takes) l.fn.channel.packets);
  others : AreSameButCells l.layout.processes l.layout.capacities.items l.connection l.fn.slots.items l.slots.items;
  deep : length l.slots.items ≡ length l.fn.slots.items;
}
