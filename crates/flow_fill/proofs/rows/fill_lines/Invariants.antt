use Rattle.std.proofs.Common.{◌≡◌, ◌≤◌, ◌++◌, drop, length, map}
use Rattle.flow_limits.specs.declared.TheConstants.{FILE_LIMIT}
use Rattle.flow_fill.specs.declared.place.Place.TheVariants.{Head}
use Rattle.flow_fill.specs.Filling.{filled_lines, text_of}
use Rattle.flow_fill.proofs.rows.fill_lines.Given as goal

abbrev pub invariant-lines : goal.invariant-lines
invariant-lines l =
    (text_of (filled_lines Head l.fn.given (map (λ line. line.items) l.fn.lines)) ≡ l.out.items ++ text_of (filled_lines l.place l.fn.given (drop l.line-index (map (λ line. line.items) l.fn.lines))))
    × (length l.out.items ≤ FILE_LIMIT)
