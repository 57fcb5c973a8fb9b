use Rattle.std.proofs.Common.{◌≡◌, ◌++◌, take}
use Rattle.std.specs.List.{flat_map}
use Rattle.flow_drawing.specs.Spelling.{setting_text}
use Rattle.flow_drawing.proofs.labels.put_settings.Given as goal

abbrev pub invariant-loop-setting : goal.invariant-loop-setting
invariant-loop-setting l = l.out.items ≡ l.initial.out.items ++ flat_map (setting_text l.form) (take l.setting-index l.settings)
