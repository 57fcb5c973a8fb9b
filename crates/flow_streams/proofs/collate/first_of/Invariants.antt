use Rattle.std.proofs.Common.{◌≡◌, ◌+◌, ◌<◌, ◌≤◌, length, drop}
use Rattle.std.specs.Prelude.{IfSome}
use Rattle.flow_streams.specs.Collation.{first_of}
use Rattle.flow_streams.proofs.collate.first_of.Given as goal

abbrev pub invariant-loop-at : goal.invariant-loop-at
invariant-loop-at l = (l.at ≤ length l.owners) × (l.first ≡ first_of l.bytes (drop l.at l.owners) (drop l.at l.packets)) × IfSome l.first (λ place. l.at + place < length l.owners)

abbrev pub decreases-loop-at : goal.decreases-loop-at
decreases-loop-at l = l.at
