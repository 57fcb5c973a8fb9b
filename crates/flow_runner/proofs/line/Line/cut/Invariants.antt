use Rattle.std.proofs.Common.{◌≡◌, ◌+◌, length, All, sum_by, vec_capacity}
use Rattle.flow_limits.specs.declared.TheConstants.{WORKER_LIMIT}
use Rattle.flow_runner.specs.Lines.{IsPassAt, IsNewPass, parts_of}
use Rattle.flow_runner.proofs.line.Line.cut.Given as goal

-- each pass that was cut off has one part, and the first one all others
abbrev pub invariant-loop-i : goal.invariant-loop-i
invariant-loop-i l = record {
  first : IsPassAt l.self l.first;
  left : parts_of l.first + l._i ≡ WORKER_LIMIT + 1;
  each : All (IsPassAt l.self) l.passes.items;
  parts : sum_by parts_of l.passes.items + 1 ≡ l._i;
  long : length l.passes.items + 1 ≡ l._i;
  room : vec_capacity l.passes ≡ vec_capacity l.fn.passes;
  new : IsNewPass l.first;
  fresh : All IsNewPass l.passes.items;
}
