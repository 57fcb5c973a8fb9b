use Rattle.std.proofs.Common.{◌≡◌, ◌≤◌, ◌++◌, drop, length}
use Rattle.flow_floor.specs.Floors.{woken_of, IsSameWorker, IsWakingAt, Readies}
use Rattle.flow_floor.specs.Plans.{sending_processes}
use Rattle.flow_floor.specs.Workers.{view}
use Rattle.flow_floor.proofs.floor.Floor.wake_all.Given as goal

-- the processes of those from i on are still noted, and those behind them
abbrev pub invariant-loop-i : goal.invariant-loop-i
invariant-loop-i g l =
    IsWakingAt g.K.Component.rules l.fn.self l.worker l.fn.held (sending_processes (drop l.i l.fn.senders) ++ drop (length (sending_processes l.fn.senders)) (view l.fn.worker).noted)
    × ((view l.worker).made ≡ (view l.fn.worker).made) × IsSameWorker l.fn.worker l.worker × Readies l.fn.self l.fn.worker l.worker × (length (woken_of l.worker) ≤ l.i)
