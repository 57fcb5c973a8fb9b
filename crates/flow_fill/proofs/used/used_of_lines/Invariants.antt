use Rattle.std.proofs.Common.{◌≡◌, ◌++◌, drop, map}
use Rattle.flow_fill.specs.Joining.{used_from, used_in}
use Rattle.flow_fill.proofs.used.used_of_lines.Given as goal

abbrev pub invariant-lines : goal.invariant-lines
invariant-lines l = used_in (map (λ line. line.items) l.fn.lines) ≡ l.files.items ++ used_from l.place (drop l.line-index (map (λ line. line.items) l.fn.lines))
