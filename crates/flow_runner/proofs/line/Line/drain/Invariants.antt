use Rattle.std.proofs.Common.{◌≡◌, ℕ, List, ◌+◌, ◌≤◌, ◌++◌, length, vec_capacity}
use Rattle.crossbeam_queue.specs.Passes.{IsPassOf}
use Rattle.flow_runner.specs.Fair.{placed}
use Rattle.flow_runner.specs.Lines.{IsAlone, puts_of, takes_of}
use Rattle.flow_runner.proofs.line.Line.drain.Given as goal

-- what is left so far was popped, behind what had been popped before, and there is room for the rest
abbrev pub invariant-loop : goal.invariant-loop
invariant-loop g l = record {
  queue : IsPassOf l.queue l.only.pass;
  alone : IsAlone l.only;
  put : puts_of l.only ≡ puts_of l.fn.only;
  taken : (gone : List ℕ) × (takes_of l.fn.only ≡ placed 0 gone) × (takes_of l.only ≡ placed 0 (gone ++ l.left.items)) × (length (puts_of l.fn.only) ≤ length gone + l.fn.self.processes);
  room : l.fn.self.processes ≤ vec_capacity l.left;
}
