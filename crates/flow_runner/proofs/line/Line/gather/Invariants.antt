use Rattle.std.proofs.Common.{◌≡◌, [], ◌∷◌, ◌++◌}
use Rattle.flow_runner.specs.Lines.{AreAllPasses, all_puts, all_takes}
use Rattle.flow_runner.proofs.line.Line.gather.Given as goal

-- the passes that are left have pushed and popped what all did
abbrev pub invariant-loop-pass : goal.invariant-loop-pass
invariant-loop-pass l = record {
  all : AreAllPasses l.self (l.passes.items ++ l.first ∷ []);
  put : all_puts (l.passes.items ++ l.first ∷ []) ≡ all_puts (l.fn.passes.items ++ l.fn.first ∷ []);
  taken : all_takes (l.passes.items ++ l.first ∷ []) ≡ all_takes (l.fn.passes.items ++ l.fn.first ∷ []);
}

abbrev pub decreases-loop-pass : goal.decreases-loop-pass
decreases-loop-pass l = goal.left-loop-pass l
