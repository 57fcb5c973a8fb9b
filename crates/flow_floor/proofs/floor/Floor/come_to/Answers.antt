use Rattle.std.proofs.Common.{◌+◌, refl}
use Rattle.flow_floor.specs.Ends.{capacities_of}
use Rattle.flow_floor.specs.Views.{looked}
use Rattle.flow_floor.specs.Workers.{view}
use Rattle.flow_floor.proofs.Bursting.{burst-came, burst-looked, sends-pending}
use Rattle.flow_floor.proofs.Further.{looked-further}
use Rattle.flow_floor.proofs.floor.Floor.come_to.Goals as goal

pub reach-requires-clause-sends : goal.reach-requires-clause-sends
reach-requires-clause-sends g c = let f = c.args.self.now in let q = c.requires.1.0 in
    sends-pending g.K.Component.rules g.met.K.Component.lawful f.layout.processes f.layout.connections q.turns (view c.args.worker.now) c.args.held.now.process c.args.connection q.seated.base c.args.held.now.body q.pending q.seated.held (c.args.port.0, c.requires.1.1.1)

pub returns-then-not-reach-clause-burst : goal.returns-then-not-reach-clause-burst
returns-then-not-reach-clause-burst g c = let f = c.args.self.now in let v = view c.args.worker.now in let e = c.reach.ensures in let l = e.busy c.if-not-reach.true in
    let i = f.layout.processes + f.layout.connections + c.args.connection in
    burst-looked g.K.Component.rules f.table.shared.table_id f.layout.processes f.layout.connections (capacities_of f.table.shared.key.value) g.began c.args.worker.now c.reach.new.worker c.args.held.now c.args.ends.now (looked v i l.0) c.requires.1.0 e.seated l.1 (looked-further v i l.0) refl refl refl

pub returns-else-not-reach-clause-burst : goal.returns-else-not-reach-clause-burst
returns-else-not-reach-clause-burst g c = let f = c.args.self.now in let e = c.reach.ensures in
    burst-came g.K.Component.rules f.table.shared.table_id f.layout.processes f.layout.connections (capacities_of f.table.shared.key.value) g.began c.args.worker.now c.reach.new.worker c.args.held.now c.args.ends.now c.args.connection c.requires.1.0 c.in-None.is c.requires.1.1.0 e.seated (e.came c.if-not-reach.false)
