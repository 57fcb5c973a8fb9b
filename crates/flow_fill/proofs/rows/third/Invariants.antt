use Rattle.std.proofs.Common.{◌≡◌, drop, map}
use Rattle.flow_fill.specs.Filling.{is_third}
use Rattle.flow_fill.proofs.rows.third.Given as goal

abbrev pub invariant-lines : goal.invariant-lines
invariant-lines l = is_third (map (λ line. line.items) l.lines) ≡ is_third (drop l.line-index (map (λ line. line.items) l.lines))
