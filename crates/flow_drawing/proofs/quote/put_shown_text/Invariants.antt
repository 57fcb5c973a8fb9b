use Rattle.std.proofs.Common.{◌≡◌, ◌++◌, length, drop, chars}
use Rattle.flow_drawing.specs.Quotes.{shown_letters}
use Rattle.flow_drawing.proofs.quote.put_shown_text.Given as goal

abbrev pub invariant-loop-letter : goal.invariant-loop-letter
invariant-loop-letter l = l.out.items ++ shown_letters l.last (drop (length l.yielded) (chars l.text)) ≡ l.initial.out.items ++ shown_letters 0 (chars l.text)
