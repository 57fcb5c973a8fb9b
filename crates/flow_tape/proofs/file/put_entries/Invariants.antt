use Rattle.std.proofs.Common.{◌≡◌, ◌++◌, take}
use Rattle.std.specs.List.{flat_map}
use Rattle.flow_tape.specs.Files.{entry_written}
use Rattle.flow_tape.specs.Fields.{entry_fields}
use Rattle.flow_tape.proofs.Loops.{Completes}
use Rattle.flow_tape.proofs.file.put_entries.Given as goal

abbrev pub invariant-loop-entry : goal.invariant-loop-entry
invariant-loop-entry l = record { bytes : l.bytes.items ≡ l.initial.bytes.items ++ flat_map entry_written (take l.entry-index l.entries); whole : Completes entry_fields l.entries l.entry-index }
