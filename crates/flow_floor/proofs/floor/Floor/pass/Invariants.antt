use Rattle.std.proofs.Common.{◌≡◌, ◌+◌}
use Rattle.flow_machine.specs.Thoughts.{IsSet}
use Rattle.flow_floor.specs.Bursting.{turns_at, GoesOn}
use Rattle.flow_floor.specs.Bursts.{PassesBetween}
use Rattle.flow_floor.specs.Floors.{IsInBurstAt, IsWiredAt}
use Rattle.flow_floor.proofs.floor.Floor.pass.Given as goal

abbrev pub ghost-go_on : goal.ghost-go_on
ghost-go_on g a = g.began

-- so many turns were made, and the body is set for the next, for which the gate was passed
abbrev pub invariant-loop-count : goal.invariant-loop-count
invariant-loop-count g l =
    IsInBurstAt g.K.Component.rules l.fn.self g.began l.worker l.held l.ends × (turns_at l.ends ≡ l.count) × GoesOn l.fn.worker l.worker × IsWiredAt l.fn.self l.held × IsSet l.held.body × (l.held.process ≡ l.fn.held.process)
    × (l.count ≡ 0 → l.held ≡ l.fn.held)
    × (l.held.body.process.turns ≡ l.fn.held.body.process.turns + l.count) × PassesBetween (g.G.Gate.has_passed l.gate) l.fn.held.body.process.turns (l.count + 1)
