use Rattle.std.proofs.Common.{◌≡◌, ◌*◌, length}
use Rattle.flow_bench.proofs.lines.input_of.Given as goal

abbrev pub invariant-loop-line : goal.invariant-loop-line
invariant-loop-line l = length l.bytes.items ≡ 64 * l._line
