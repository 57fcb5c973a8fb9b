use Rattle.std.proofs.Common.{◌≡◌, ◌++◌, length, map, take, drop}
use Rattle.flow_floor.specs.Opening.{emptied}
use Rattle.flow_floor.specs.Laying.{AreLaidFrom}
use Rattle.flow_floor.proofs.back.take_back_all.Given as goal

-- so many are what they were
abbrev pub invariant-loop-connection : goal.invariant-loop-connection
invariant-loop-connection g l = record {
  channels : l.channels.items ≡ take l.connection l.about.value.channels ++ map emptied (drop l.connection l.about.value.channels);
  laid : AreLaidFrom l.layout.processes l.layout.capacities.items l.about.value.channels l.connection l.slots.items;
  deep : length l.slots.items ≡ length l.fn.slots.items;
}
