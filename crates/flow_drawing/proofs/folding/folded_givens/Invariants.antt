use Rattle.std.proofs.Common.{◌≡◌, take}
use Rattle.std.specs.List.{flat_map}
use Rattle.flow_drawing.specs.Folding.{folded_given}
use Rattle.flow_drawing.proofs.folding.folded_givens.Given as goal

abbrev pub invariant-loop-given : goal.invariant-loop-given
invariant-loop-given l = l.folded ≡ flat_map (folded_given l.processes) (take l.given-index l.givens)
