use Rattle.std.proofs.Common.{◌≡◌, ◌≤◌, length, map, string_bytes}
use Rattle.flow_drawn.specs.Calls.{drawn_within}
use Rattle.flow_drawn.proofs.words.split.Given as goal

abbrev pub invariant-texts : goal.invariant-texts
invariant-texts l = (drawn_within (map string_bytes l.fn.words) (length l.fn.words) ≡ drawn_within (map string_bytes l.fn.words) l.n) × (l.n ≤ length l.fn.words)

abbrev pub decreases-texts : goal.decreases-texts
decreases-texts l = l.n
