use Rattle.flow_floor.specs.Floors.{WakesNone}
use Rattle.flow_floor.specs.Looks.{Looked}
use Rattle.flow_floor.specs.Workers.{view, IsHeldBy, IsSameSeat, LooksOn}
use Rattle.flow_floor.proofs.floor.Floor.look_over.Given as goal

-- the inputs below i were looked at
abbrev pub invariant-loop-i : goal.invariant-loop-i
invariant-loop-i g l =
    IsHeldBy g.K.Component.rules l.fn.self.table.shared.table_id l.fn.self.layout.processes l.worker l.fn.held × LooksOn (view l.fn.worker) (view l.worker) × IsSameSeat (view l.fn.worker) (view l.worker)
    × Looked l.fn.self.layout.processes (view l.fn.worker).steps l.i l.fn.held.body.process.inputs (view l.worker).seen l.open × WakesNone l.fn.worker l.worker
