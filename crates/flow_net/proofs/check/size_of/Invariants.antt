use Rattle.std.proofs.Common.{◌≡◌, ◌≤◌, take}
use Rattle.flow_net.specs.Finishes.{size_of}
use Rattle.flow_net.proofs.check.size_of.Given as goal

abbrev pub invariant-loop-place : goal.invariant-loop-place
invariant-loop-place l = (l.size ≡ size_of (take l.place l.elements)) × (l.size ≤ l.place)
