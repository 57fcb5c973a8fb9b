use Rattle.std.proofs.Common.{◌≤◌, length}
use Rattle.flow_bracket.specs.Scans.{Scanned}
use Rattle.flow_bracket.proofs.pairs.substreams.Given as goal

abbrev pub invariant-loop-place : goal.invariant-loop-place
invariant-loop-place l = (l.place ≤ length l.kinds) × Scanned l.kinds l.place l.closes.items l.pairs.items

abbrev pub decreases-loop-place : goal.decreases-loop-place
decreases-loop-place l = l.place
