use Rattle.std.proofs.Common.{◌≡◌, ◌==◌, drop}
use Rattle.std.specs.List.{list_any}
use Rattle.flow_cycle.specs.declared.Waits.{Waits}
use Rattle.flow_draw.proofs.remarks.waits_in.Given as goal

abbrev pub invariant-loop-waits : goal.invariant-loop-waits
invariant-loop-waits l = list_any (λ (w : Waits). w.process == l.process) (drop l.waits-index l.cycle)
    ≡ list_any (λ (w : Waits). w.process == l.process) l.cycle
