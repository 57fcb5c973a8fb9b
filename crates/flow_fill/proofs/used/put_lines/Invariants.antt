use Rattle.std.proofs.Common.{◌≡◌, ◌++◌, drop, map}
use Rattle.flow_fill.specs.Filling.{text_of}
use Rattle.flow_fill.proofs.used.put_lines.Given as goal

abbrev pub invariant-lines : goal.invariant-lines
invariant-lines l = l.fn.out.items ++ text_of (map (λ line. line.items) l.fn.lines) ≡ l.out.items ++ text_of (drop l.line-index (map (λ line. line.items) l.fn.lines))
