use Rattle.std.proofs.Common.{◌≡◌, ◌+◌, length}
use Rattle.flow_floor.specs.Opening.{AreSameBut, HaveLevels}
use Rattle.flow_floor.proofs.words.lay_levels.Given as goal

-- so many have their level words
abbrev pub invariant-loop-connection : goal.invariant-loop-connection
invariant-loop-connection g l = record {
  levels : HaveLevels l.layout.processes l.net.channels l.connection l.words.items;
  others : AreSameBut l.layout.processes (l.layout.processes + l.layout.connections) l.fn.words.items l.words.items;
  wide : length l.words.items ≡ length l.fn.words.items;
}
