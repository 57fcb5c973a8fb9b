use Rattle.std.proofs.Common.{◌+◌, Some, inl, refl, sym, subst}
use Rattle.flow_floor.specs.declared.floor.Held.{Held}
use Rattle.flow_floor.specs.Bursting.{IsInBurst}
use Rattle.flow_floor.specs.Ends.{capacities_of}
use Rattle.flow_floor.specs.Views.{seeing}
use Rattle.flow_floor.specs.Workers.{view}
use Rattle.flow_floor.proofs.Bursting.{burst-looked, burst-received, receives-pending}
use Rattle.flow_floor.proofs.Further.{seeing-further}
use Rattle.flow_floor.proofs.Gated.{got-turned}
use Rattle.flow_floor.proofs.Passing.{may-get}
use Rattle.flow_floor.proofs.floor.Floor.receive_on.Goals as goal

pub draw-requires-clause-receives : goal.draw-requires-clause-receives
draw-requires-clause-receives g c = let f = c.args.self.now in let q = c.requires.1.0 in
    receives-pending g.K.Component.rules g.met.K.Component.lawful f.layout.processes f.layout.connections q.turns (view c.args.worker.now) c.args.held.now.process c.args.connection q.seated.base c.args.held.now.body q.pending q.seated.held (inl (c.args.port.0, c.requires.1.1.1.1.1.1.0))

pub effect-requires-clause-effect : goal.effect-requires-clause-effect
effect-requires-clause-effect g c = let f = c.args.self.now in let q = c.requires.1.0 in
    may-get g.K.Component.rules g.met.K.Component.lawful f.layout.processes f.layout.connections q.turns (view c.args.worker.now) c.args.held.now.process c.args.connection c.args.port c.in-Packet.packet c.args.held.now.body q.pending (c.in-Packet.ensures.drawn.0 q.turns q.pending.may) c.requires.1.1.1.1.1.0 c.requires.1.1.1.1.1.1.0

pub returns-in-Nothing-clause-burst : goal.returns-in-Nothing-clause-burst
returns-in-Nothing-clause-burst g c = let f = c.args.self.now in let e = c.in-Nothing.ensures in let v = view c.args.worker.now in let i = f.layout.processes + c.args.connection in
    burst-looked g.K.Component.rules f.table.shared.table_id f.layout.processes f.layout.connections (capacities_of f.table.shared.key.value) g.began c.args.worker.now c.draw.new.worker c.args.held.now c.args.ends.now (seeing v i c.in-Nothing.field-0) c.requires.1.0 e.seated e.drawn.1 (seeing-further v i c.in-Nothing.field-0) refl refl refl

pub returns-in-Packet-clause-burst : goal.returns-in-Packet-clause-burst
returns-in-Packet-clause-burst g c = let f = c.args.self.now in let e = c.in-Packet.ensures in let h = c.args.held.now in let ends = c.args.ends.now in let capacities = capacities_of f.table.shared.key.value in
    let h' : Held _ = record h { body = c.effect.new.self } in
    let w = c.draw.new.worker in
    subst (λ k. IsInBurst g.K.Component.rules f.table.shared.table_id f.layout.processes f.layout.connections capacities g.began w h' (record ends { input = Some (record { connection = c.args.connection; packets = k + 1 }) })) (sym c.packets-drawn.ensures)
    (burst-received g.K.Component.rules f.table.shared.table_id f.layout.processes f.layout.connections capacities g.began c.args.worker.now w h h' ends c.args.connection c.in-Packet.field-0 _ c.args.port c.in-Packet.packet c.requires.1.0 c.requires.1.1.0 (c.may_come_to.ensures c.if-not-may_come_to.false) c.requires.1.1.1.1.0
    c.requires.1.1.1.1.1.0 c.requires.1.1.1.1.1.1.0 e.seated e.drawn.1 c.effect.ensures refl)

pub returns-in-Packet-clause-turned : goal.returns-in-Packet-clause-turned
returns-in-Packet-clause-turned g c made = got-turned c.args.held.now.body c.effect.new.self c.in-Packet.packet _ c.effect.ensures
