use Rattle.std.proofs.Common.{◌<◌, ◌∷◌, [], None, Some, length, refl, ap, arith}
use Rattle.flow_model.specs.Events.{Signals}
use Rattle.flow_machine.specs.declared.answers.Effect.TheVariants as effects
use Rattle.flow_machine.proofs.Pairs.{body-turn}
use Rattle.flow_floor.specs.Midway.{drawn_at}
use Rattle.flow_floor.proofs.Midways.{makes-one, may-one, midway-seated, midway-turned}
use Rattle.flow_floor.proofs.floor.Floor.signal_as.Goals as goal

pub stamp-stamp-requires-clause-count : goal.stamp-stamp-requires-clause-count
stamp-stamp-requires-clause-count g c = ap (λ ts. length ts) c.requires.deed.0

pub stamp-stamp-requires-clause-seated : goal.stamp-stamp-requires-clause-seated
stamp-stamp-requires-clause-seated g c = let f = c.args.self.now in midway-seated g.K.Component.rules f.table.shared.table_id f.layout.processes c.args.worker.now c.args.held.now _ _ _ c.requires.held

pub stamp-stamp-requires-clause-pending : goal.stamp-stamp-requires-clause-pending
stamp-stamp-requires-clause-pending g c = let f = c.args.self.now in let h = c.args.held.now in
    may-one g.K.Component.rules f.table.shared.table_id f.layout.processes f.layout.connections c.args.worker.now h None (Some (drawn_at c.args.connection c.args.packet)) [] (Signals c.args.connection c.args.packet) g.D.Deed.turns c.requires.held c.requires.deed.0 (drawn_at c.args.connection c.args.packet, refl, refl, (let some_drawn : 0 < length (c.args.packet ∷ []) = omega arith in some_drawn), refl)
    c.requires.happens

pub returns-clause-held : goal.returns-clause-held
returns-clause-held g c = let f = c.args.self.now in let h = c.args.held.now in let n = c.stamp-stamp.ensures in
    let turn = body-turn h.body c.effect.new.self (effects.Signal c.args.packet) c.stamp-stamp.result (Signals c.args.connection c.args.packet) c.effect.ensures refl refl refl in
    midway-turned g.K.Component.rules f.table.shared.table_id f.layout.processes c.args.worker.now c.stamp-stamp.new.worker h (record h { body = c.effect.new.self }) None (Some (drawn_at c.args.connection c.args.packet)) [] (Signals c.args.connection c.args.packet) c.stamp-stamp.result g.D.Deed.turns c.requires.held n.seated c.requires.deed.0 n.view turn refl

pub returns-clause-turn : goal.returns-clause-turn
returns-clause-turn g c = let h = c.args.held.now in let n = c.stamp-stamp.ensures in
    let turn = body-turn h.body c.effect.new.self (effects.Signal c.args.packet) c.stamp-stamp.result (Signals c.args.connection c.args.packet) c.effect.ensures refl refl refl in
    makes-one g.K.Component.rules c.args.self.now.table.shared.key.value c.args.worker.now c.stamp-stamp.new.worker h (record h { body = c.effect.new.self }) (Signals c.args.connection c.args.packet) c.stamp-stamp.result g.D.Deed.turns c.requires.held.agrees c.requires.deed.0 n.view n.above n.machine n.woken turn refl
