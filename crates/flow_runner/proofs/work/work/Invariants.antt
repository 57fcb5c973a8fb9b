use Rattle.flow_floor.specs.Floors.{IsHeldAt, IsWiredAt, IsSameWorker, turns_of}
use Rattle.flow_runner.specs.Attempts.{Spends}
use Rattle.flow_runner.specs.Serving.{names_of, MayStandIn, PushesBut}
use Rattle.flow_runner.proofs.Gates.{IsGated}
use Rattle.flow_runner.proofs.work.work.Given as goal

-- the body is still the worker's, and wired; and the worker is the same, and spends; and the first attempt had the gate passed
abbrev pub invariant-loop-burst : goal.invariant-loop-burst
invariant-loop-burst g l = IsHeldAt g.K.Component.rules l.floor l.worker l.held × IsWiredAt l.floor l.held × IsSameWorker l.fn.worker l.worker × Spends (turns_of l.fn.worker) l.fn.stint.left (turns_of l.worker) l.stint.left × PushesBut l.line l.fn.worker l.fn.pass (names_of l.fn.unpushed) l.worker l.pass (names_of l.unpushed) × MayStandIn l.line (names_of l.unpushed) × IsGated (g.G.Gate.has_passed l.gate) l._burst l.fn.held l.held l.fn.stint.left l.stint.left
