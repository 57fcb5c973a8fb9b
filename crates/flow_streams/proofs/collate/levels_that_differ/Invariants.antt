use Rattle.std.proofs.Common.{◌≡◌, ◌*◌, ◌≤◌, drop}
use Rattle.flow_streams.specs.Collation.{levels_from}
use Rattle.flow_streams.proofs.collate.levels_that_differ.Given as goal

abbrev pub invariant-loop-level : goal.invariant-loop-level
invariant-loop-level l = (levels_from l.bytes (drop l.level l.fields) l.old l.new ≡ levels_from 0 l.fields l.old l.new) × (l.bytes ≤ 255 * l.level)
