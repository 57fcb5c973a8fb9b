use Rattle.std.proofs.Common.{◌≡◌, ◌++◌, take}
use Rattle.flow_floor.specs.Floors.{woken_of}
use Rattle.flow_runner.specs.Lines.{pops_of, pushes_of}
use Rattle.flow_runner.specs.Serving.{KeepsPass}
use Rattle.flow_runner.proofs.readied.push_woken.Given as goal

-- those up to here were pushed
abbrev pub invariant-loop-i : goal.invariant-loop-i
invariant-loop-i g l = KeepsPass l.line l.fn.pass l.pass × (pushes_of l.pass ≡ pushes_of l.fn.pass ++ take l.i (woken_of l.worker)) × (pops_of l.pass ≡ pops_of l.fn.pass)
