use Rattle.std.proofs.Common.{◌≡◌, ◌∙◌, [], ◌∷◌, Option, Some, slice_get, subst}
use Rattle.flow_floor.proofs.Plans.{receiver_at-is}
use Rattle.flow_floor.specs.declared.ends.End.{End}
use Rattle.flow_floor.specs.Bursting.{receivers_of, IsEndBelow}
use Rattle.flow_floor.proofs.Holding.{first-noted}
use Rattle.flow_floor.proofs.Planned.{connection-at, receiver-low}
use Rattle.flow_floor.proofs.Settling.{receivers-some}
use Rattle.flow_floor.proofs.floor.Floor.wake_receiver.Goals as goal
use Rattle.flow_floor.proofs.floor.Floor.wake_receiver.Goals.{After-index}

-- what the plan says of the connection
at : (g : _) (c : After-index g) → slice_get c.args.self.now.plan.items c.in-Some.end.connection ≡ Some c.index.result.now
at g c = let f = c.args.self.now in connection-at f c.in-Some.end.connection c.index.result.now (subst (λ (x : Option End). IsEndBelow f.layout.connections x) c.in-Some.is c.requires.range) c.index.ensures

pub wake-requires-clause-waking : goal.wake-requires-clause-waking
wake-requires-clause-waking g c = let f = c.args.self.now in let o = c.args.ends.now.output in let plan = f.plan.items in let end = c.in-Some.end in
    let one : receivers_of plan o ≡ c.index.result.now.receiver ∷ [] = receivers-some plan o end c.in-Some.is c.if-end-eq0.false ∙ receiver_at-is plan end.connection c.index.result.now (at g (goal.at.wake-requires-clause-waking g c).After-index) in
    first-noted g.K.Component.rules f.table.shared.table_id f.layout.processes c.args.worker.now c.args.held.now c.index.result.now.receiver (receivers_of plan o) [] one c.requires.waking

pub wake-requires-clause-below : goal.wake-requires-clause-below
wake-requires-clause-below g c = receiver-low c.args.self.now c.in-Some.end.connection c.index.result.now (at g (goal.at.wake-requires-clause-below g c).After-index)
