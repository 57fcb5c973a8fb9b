use Rattle.std.proofs.Common.{◌≡◌}
use Rattle.flow_runner.specs.Lines.{pops_of, pushes_of}
use Rattle.flow_runner.specs.Serving.{KeepsPass}
use Rattle.flow_runner.proofs.readied.push_surely.Given as goal

-- nothing was pushed yet
abbrev pub invariant-loop : goal.invariant-loop
invariant-loop g l = KeepsPass l.line l.fn.pass l.pass × (pushes_of l.pass ≡ pushes_of l.fn.pass) × (pops_of l.pass ≡ pops_of l.fn.pass)
