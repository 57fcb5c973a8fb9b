use Rattle.std.proofs.Common.{◌≡◌, map, take}
use Rattle.flow_machine.specs.Inlets.{is_text}
use Rattle.flow_machine.proofs.inlet.freshen.Given as goal

abbrev pub invariant-loop-i : goal.invariant-loop-i
invariant-loop-i l = take l.i l.fresh ≡ map is_text (take l.i l.inlets)
