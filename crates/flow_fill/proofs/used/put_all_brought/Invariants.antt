use Rattle.std.proofs.Common.{◌≡◌, ◌++◌, drop, map}
use Rattle.std.specs.List.{flat_map}
use Rattle.flow_fill.specs.Filling.{text_of}
use Rattle.flow_fill.specs.Joining.{brought_by}
use Rattle.flow_fill.proofs.used.put_all_brought.Given as goal

abbrev pub invariant-files : goal.invariant-files
invariant-files l = l.fn.out.items ++ text_of (flat_map brought_by (map (λ file. file.items) l.fn.files)) ≡ l.out.items ++ text_of (flat_map brought_by (drop l.file-index (map (λ file. file.items) l.fn.files)))
