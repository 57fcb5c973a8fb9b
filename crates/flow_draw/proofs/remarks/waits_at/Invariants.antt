use Rattle.std.proofs.Common.{◌≡◌, ◌==◌, drop}
use Rattle.std.specs.List.{list_any}
use Rattle.flow_cycle.specs.declared.Waits.{Waits}
use Rattle.flow_draw.proofs.remarks.waits_at.Given as goal

abbrev pub invariant-loop-waits : goal.invariant-loop-waits
invariant-loop-waits l = list_any (λ (w : Waits). w.connection == l.connection) (drop l.waits-index l.cycle)
    ≡ list_any (λ (w : Waits). w.connection == l.connection) l.cycle
