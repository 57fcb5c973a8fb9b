-- A chain: a reader of lines, a process that passes them on, and a writer of lines. It is the network that a builder makes
-- of three processes of standard kinds with names that differ, of two connections for which no capacity was given, and of a file's
-- name for the reader and one for the writer.
use Rattle.std.specs.Prelude.{ℕ, List, [], ◌∷◌, codes, true, false}
use Rattle.flow_plan.specs.declared.kind.PortClass.{PortClass}
use Rattle.flow_plan.specs.declared.kind.PortClass.TheVariants.{Stream, File}
use Rattle.flow_plan.specs.declared.plan.Process.{Process}
use Rattle.flow_plan.specs.declared.plan.Connection.{Connection}
use Rattle.flow_plan.specs.declared.plan.PortRow.{PortRow}
use Rattle.flow_plan.specs.Network.{Network}

-- A port that has to be bound, and isn't an array: it has one element.
abbrev pub plain_row : List ℕ → PortClass → PortRow
plain_row name class = record { spec = record { name = name; class = class; array = false; needed = true }; elements = 1 }

-- The reader: one option, no input, one output.
abbrev pub reader_of : List ℕ → List ℕ → Process
reader_of name file = record { name = name; kind = codes "ReadLines"; options = (0, file) ∷ []; initials = []; inputs = 0; outputs = 1 }

-- What passes lines on: one input, one output.
abbrev pub pass_of : List ℕ → Process
pass_of name = record { name = name; kind = codes "Passthru"; options = []; initials = []; inputs = 1; outputs = 1 }

-- The writer: one option, one input, no output.
abbrev pub writer_of : List ℕ → List ℕ → Process
writer_of name file = record { name = name; kind = codes "WriteLines"; options = (0, file) ∷ []; initials = []; inputs = 1; outputs = 0 }

-- A connection of the capacity 10, which it has where none is given, from output 0 of a process to input 0 of another.
abbrev pub link_of : ℕ → ℕ → Connection
link_of sender receiver = record { receiver = receiver; input = 0; capacity = 10; senders = record { process = sender; output = 0 } ∷ [] }

-- The chain of the three under these names, the reader and the writer with these files.
abbrev pub chain_of : List ℕ → List ℕ → List ℕ → List ℕ → List ℕ → Network
chain_of reader from pass writer to = record {
  processes = reader_of reader from ∷ pass_of pass ∷ writer_of writer to ∷ [];
  connections = link_of 0 1 ∷ link_of 1 2 ∷ [];
  tables =
      record { inputs = plain_row (codes "FILE") File ∷ []; outputs = plain_row (codes "OUT") Stream ∷ [] }
      ∷ record { inputs = plain_row (codes "IN") Stream ∷ []; outputs = plain_row (codes "OUT") Stream ∷ [] }
      ∷ record { inputs = plain_row (codes "FILE") File ∷ plain_row (codes "IN") Stream ∷ []; outputs = [] }
      ∷ [];
}
