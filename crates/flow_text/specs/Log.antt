-- The files that a shelf opened or created, as the code keeps them. Their bytes are a history, which no code sees.
use Rattle.std.specs.Prelude.{string_bytes}
use Rattle.flow_text.specs.Edge.{Logged}
use Rattle.flow_text.specs.declared.log.Entry.{Entry}

-- an entry as contracts see it
abbrev pub logged : Entry → Logged
logged entry = record { name = string_bytes entry.name; bytes = entry.given.bytes; ended = entry.ended }
