use Rattle.std.proofs.Common.{◌≡◌, ◌+◌, ◌++◌, drop, map}
use Rattle.flow_fill.specs.Filling.{words_from, words_in}
use Rattle.flow_fill.proofs.rows.words_of_lines.Given as goal

abbrev pub invariant-lines : goal.invariant-lines
invariant-lines l = words_in (map (λ line. line.items) l.fn.lines) ≡ l.words.items ++ words_from (l.i + 1) l.place (drop l.i (map (λ line. line.items) l.fn.lines))
