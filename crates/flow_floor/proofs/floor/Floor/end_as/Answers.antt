use Rattle.std.proofs.Common.{[], None, length, refl, ap}
use Rattle.flow_model.specs.Events.{Hears_end}
use Rattle.flow_machine.specs.declared.answers.Effect.TheVariants as effects
use Rattle.flow_machine.proofs.Pairs.{body-turn}
use Rattle.flow_floor.proofs.Holding.{held-seated}
use Rattle.flow_floor.proofs.Midways.{held-midway, makes-one, may-one, midway-held, midway-turned}
use Rattle.flow_floor.proofs.Turnings.{end-happens}
use Rattle.flow_floor.proofs.floor.Floor.end_as.Goals as goal

pub stamp-stamp-requires-clause-count : goal.stamp-stamp-requires-clause-count
stamp-stamp-requires-clause-count g c = ap (λ ts. length ts) c.requires.deed.0

pub stamp-stamp-requires-clause-seated : goal.stamp-stamp-requires-clause-seated
stamp-stamp-requires-clause-seated g c = let f = c.args.self.now in held-seated g.K.Component.rules f.table.shared.table_id f.layout.processes c.args.worker.now c.args.held.now c.requires.held

pub stamp-stamp-requires-clause-pending : goal.stamp-stamp-requires-clause-pending
stamp-stamp-requires-clause-pending g c = let f = c.args.self.now in let h = c.args.held.now in
    may-one g.K.Component.rules f.table.shared.table_id f.layout.processes f.layout.connections c.args.worker.now h None None [] (Hears_end c.args.port.0) g.D.Deed.turns (midway-held g.K.Component.rules f.table.shared.table_id f.layout.processes c.args.worker.now h c.requires.held) c.requires.deed.0 tt
    (end-happens _ _ _ _ h.body None None _ c.args.connection 0 c.args.port c.requires.range c.requires.stage c.requires.input c.requires.over)

pub returns-clause-held : goal.returns-clause-held
returns-clause-held g c = let f = c.args.self.now in let h = c.args.held.now in let n = c.stamp-stamp.ensures in
    let turn = body-turn h.body c.effect.new.self effects.End c.stamp-stamp.result (Hears_end c.args.port.0) c.effect.ensures refl refl refl in
    held-midway g.K.Component.rules f.table.shared.table_id f.layout.processes c.stamp-stamp.new.worker _
    (midway-turned g.K.Component.rules f.table.shared.table_id f.layout.processes c.args.worker.now c.stamp-stamp.new.worker h (record h { body = c.effect.new.self }) None None [] (Hears_end c.args.port.0) c.stamp-stamp.result g.D.Deed.turns (midway-held g.K.Component.rules f.table.shared.table_id f.layout.processes c.args.worker.now h c.requires.held) n.seated c.requires.deed.0 n.view turn refl)

pub returns-clause-turn : goal.returns-clause-turn
returns-clause-turn g c = let h = c.args.held.now in let n = c.stamp-stamp.ensures in
    let turn = body-turn h.body c.effect.new.self effects.End c.stamp-stamp.result (Hears_end c.args.port.0) c.effect.ensures refl refl refl in
    makes-one g.K.Component.rules c.args.self.now.table.shared.key.value c.args.worker.now c.stamp-stamp.new.worker h (record h { body = c.effect.new.self }) (Hears_end c.args.port.0) c.stamp-stamp.result g.D.Deed.turns c.requires.held.agrees c.requires.deed.0 n.view n.above n.machine n.woken turn refl
