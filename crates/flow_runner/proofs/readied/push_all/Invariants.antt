use Rattle.std.proofs.Common.{◌≡◌, ◌++◌, take}
use Rattle.flow_runner.specs.Lines.{pops_of, pushes_of}
use Rattle.flow_runner.specs.Serving.{names_of, KeepsPass}
use Rattle.flow_runner.proofs.readied.push_all.Given as goal

-- those up to here were pushed
abbrev pub invariant-loop-i : goal.invariant-loop-i
invariant-loop-i g l = KeepsPass l.line l.fn.pass l.pass × (pushes_of l.pass ≡ pushes_of l.fn.pass ++ take l.i (names_of l.fn.unpushed)) × (pops_of l.pass ≡ pops_of l.fn.pass)
