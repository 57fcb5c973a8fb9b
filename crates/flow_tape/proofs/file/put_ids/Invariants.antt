use Rattle.std.proofs.Common.{◌≡◌, ◌++◌, take}
use Rattle.std.specs.List.{flat_map}
use Rattle.flow_tape.specs.Files.{eight}
use Rattle.flow_tape.proofs.Loops.{id_fields, Completes}
use Rattle.flow_tape.proofs.file.put_ids.Given as goal

abbrev pub invariant-loop-id : goal.invariant-loop-id
invariant-loop-id l = record { bytes : l.bytes.items ≡ l.initial.bytes.items ++ flat_map eight (take l.id-index l.ids); whole : Completes id_fields l.ids l.id-index }
