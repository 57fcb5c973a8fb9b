use Rattle.std.proofs.Common.{◌≡◌, ◌≤◌, ◌-◌, drop, length}
use Rattle.std.specs.Str.Lines.{lines}
use Rattle.flow_fill.specs.Filling.{is_third}
use Rattle.flow_fill.proofs.whole.is_third.Given as goal

abbrev pub invariant-lines : goal.invariant-lines
invariant-lines l = (l.from ≤ length l.text) × (is_third (lines l.text) ≡ is_third (lines (drop l.from l.text)))

abbrev pub decreases-lines : goal.decreases-lines
decreases-lines l = length l.text - l.from
