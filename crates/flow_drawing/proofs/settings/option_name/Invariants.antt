use Rattle.std.proofs.Common.{◌≡◌, drop}
use Rattle.flow_drawing.specs.Drawings.{option_name}
use Rattle.flow_drawing.proofs.settings.option_name.Given as goal

abbrev pub invariant-loop-kind : goal.invariant-loop-kind
invariant-loop-kind l = option_name (drop l.kind-index l.kinds) l.name l.place ≡ option_name l.kinds l.name l.place
