use Rattle.std.proofs.Common.{◌≡◌, ◌+◌, ◌≤◌, List, length, take}
use Rattle.std.specs.Mem.Slots.{slots_items, slots_filled, slots_len}
use Rattle.flow_packet.specs.Tree.{Tree}
use Rattle.flow_floor.specs.Shut.{HoldsPackets}
use Rattle.flow_floor.proofs.Refilling.{Taking}
use Rattle.flow_floor.proofs.refill.take_packets.Given as goal

-- from the oldest packet's on so many cells were taken out, and their packets are in the channel
abbrev pub invariant-loop-i : goal.invariant-loop-i
invariant-loop-i g l = record {
  same : slots_items l.closed.slots ≡ slots_items l.fn.closed.slots;
  long : slots_len l.closed.slots ≡ slots_len l.fn.closed.slots;
  words : l.closed.words ≡ l.fn.closed.words;
  taking : Taking l.layout.processes l.layout.capacities.items l.connection l.fn.channel.takes l.i (slots_filled l.fn.closed.slots) (slots_filled l.closed.slots);
  few : length l.channel.packets ≤ l.i;
  kept : l.channel ≡ record l.fn.channel { packets = l.channel.packets; puts = l.fn.channel.takes + length l.channel.packets };
  packets : (packets : List Tree) → HoldsPackets l.layout.processes l.layout.capacities.items (slots_items l.fn.closed.slots) l.connection l.fn.channel.takes packets → l.channel.packets ≡ take l.i packets;
}
