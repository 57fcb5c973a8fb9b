use Rattle.std.proofs.Common.{◌≡◌, ◌++◌, take}
use Rattle.std.specs.List.{flat_map}
use Rattle.flow_tape.specs.Files.{tape_written}
use Rattle.flow_tape.specs.Fields.{tape_fields}
use Rattle.flow_tape.proofs.Loops.{Completes}
use Rattle.flow_tape.proofs.file.put_tapes.Given as goal

abbrev pub invariant-loop-tape : goal.invariant-loop-tape
invariant-loop-tape l = record { bytes : l.bytes.items ≡ l.initial.bytes.items ++ flat_map tape_written (take l.tape-index l.tapes); whole : Completes tape_fields l.tapes l.tape-index }
