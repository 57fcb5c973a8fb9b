use Rattle.std.proofs.Common.{false, length, take, ◌-◌, ◌≤◌}
use Rattle.flow_text.specs.ReadAll.{Took}
use Rattle.flow_load.proofs.front.read_front.Given as goal

abbrev pub invariant-loop-count : goal.invariant-loop-count
invariant-loop-count g l = record {
  within : l.count ≤ length l.front;
  took : Took (g.S.Edge.outside l.fn.source) (g.S.Edge.outside l.source) (take l.count l.front) false;
}

abbrev pub decreases-loop-count : goal.decreases-loop-count
decreases-loop-count g l = length l.front - l.count
