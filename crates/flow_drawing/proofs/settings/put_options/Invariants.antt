use Rattle.std.proofs.Common.{◌≡◌, ◌++◌, take}
use Rattle.std.specs.List.{flat_map}
use Rattle.flow_drawing.specs.Drawings.{setting_of}
use Rattle.flow_drawing.proofs.settings.put_options.Given as goal

abbrev pub invariant-loop-option : goal.invariant-loop-option
invariant-loop-option l = l.settings ≡ l.initial.settings ++ flat_map (setting_of l.kinds l.kind) (take l.option-index l.options)
