use Rattle.std.proofs.Common.{◌≡◌, ◌++◌, drop, map, false}
use Rattle.flow_fill.specs.Filling.{text_of}
use Rattle.flow_fill.specs.Joining.{subnet_rows}
use Rattle.flow_fill.proofs.used.put_subnets.Given as goal

abbrev pub invariant-lines : goal.invariant-lines
invariant-lines l = l.fn.out.items ++ text_of (subnet_rows false (map (λ line. line.items) l.fn.lines)) ≡ l.out.items ++ text_of (subnet_rows l.within (drop l.line-index (map (λ line. line.items) l.fn.lines)))
