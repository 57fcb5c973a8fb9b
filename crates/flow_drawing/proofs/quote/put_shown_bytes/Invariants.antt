use Rattle.std.proofs.Common.{◌≡◌, ◌++◌, drop}
use Rattle.flow_drawing.specs.Quotes.{last_of, shown_bytes}
use Rattle.flow_drawing.proofs.quote.put_shown_bytes.Given as goal

abbrev pub invariant-loop-byte : goal.invariant-loop-byte
invariant-loop-byte l =
    (l.out.items ++ shown_bytes l.may l.last (drop l.byte-index l.bytes) ≡ l.initial.out.items ++ shown_bytes l.may l.fn.before l.bytes)
    × (last_of l.last (drop l.byte-index l.bytes) ≡ last_of l.fn.before l.bytes)
