use Rattle.std.proofs.Common.{◌≡◌, drop}
use Rattle.flow_own.specs.Lefts.{left_of}
use Rattle.flow_own.proofs.play.left_of.Given as goal

abbrev pub invariant-loop-id : goal.invariant-loop-id
invariant-loop-id l = left_of l.ids.items (drop l.id-index l.dropped) ≡ left_of l.initial.ids.items l.dropped
