use Rattle.std.proofs.Common.{[], None, length, refl, ap, slice_get}
use Rattle.flow_model.specs.Events.{is_fresh}
use Rattle.flow_machine.specs.Effects.{text_event}
use Rattle.flow_floor.proofs.Deeds.{text-deed}
use Rattle.flow_floor.proofs.Holding.{held-seated}
use Rattle.flow_floor.proofs.Midways.{held-midway, makes-one, may-one, midway-held, midway-turned}
use Rattle.flow_floor.proofs.Turnings.{text-alone, text-happens}
use Rattle.flow_floor.proofs.floor.Floor.text_as.Goals as goal

pub stamp-stamp-requires-clause-count : goal.stamp-stamp-requires-clause-count
stamp-stamp-requires-clause-count g c = ap (λ ts. length ts) c.requires.deed.0

pub stamp-stamp-requires-clause-seated : goal.stamp-stamp-requires-clause-seated
stamp-stamp-requires-clause-seated g c = let f = c.args.self.now in held-seated g.K.Component.rules f.table.shared.table_id f.layout.processes c.args.worker.now c.args.held.now c.requires.held

pub stamp-stamp-requires-clause-pending : goal.stamp-stamp-requires-clause-pending
stamp-stamp-requires-clause-pending g c = let f = c.args.self.now in let h = c.args.held.now in let x = h.body.process in let i = c.args.port.0 in
    may-one g.K.Component.rules f.table.shared.table_id f.layout.processes f.layout.connections c.args.worker.now h None None [] (text_event i (is_fresh x i) (slice_get x.inputs i)) g.D.Deed.turns
    (midway-held g.K.Component.rules f.table.shared.table_id f.layout.processes c.args.worker.now h c.requires.held) c.requires.deed.0 (text-alone i (is_fresh x i) (slice_get x.inputs i) None None)
    (text-happens _ _ _ _ h.body None None _ c.args.port c.requires.input.0 c.requires.stage c.requires.input.1)

pub returns-clause-held : goal.returns-clause-held
returns-clause-held g c = let f = c.args.self.now in let h = c.args.held.now in let s = c.stamp-stamp.ensures in let x = h.body.process in let i = c.args.port.0 in
    let e = text_event i (is_fresh x i) (slice_get x.inputs i) in
    let turn = text-deed h.body c.effect.new.self c.args.port c.stamp-stamp.result e refl c.requires.stage c.effect.ensures in
    held-midway g.K.Component.rules f.table.shared.table_id f.layout.processes c.stamp-stamp.new.worker _
    (midway-turned g.K.Component.rules f.table.shared.table_id f.layout.processes c.args.worker.now c.stamp-stamp.new.worker h (record h { body = c.effect.new.self }) None None [] e c.stamp-stamp.result g.D.Deed.turns
    (midway-held g.K.Component.rules f.table.shared.table_id f.layout.processes c.args.worker.now h c.requires.held) s.seated c.requires.deed.0 s.view turn refl)

pub returns-clause-turn : goal.returns-clause-turn
returns-clause-turn g c = let h = c.args.held.now in let s = c.stamp-stamp.ensures in let x = h.body.process in let i = c.args.port.0 in
    let e = text_event i (is_fresh x i) (slice_get x.inputs i) in
    let turn = text-deed h.body c.effect.new.self c.args.port c.stamp-stamp.result e refl c.requires.stage c.effect.ensures in
    makes-one g.K.Component.rules c.args.self.now.table.shared.key.value c.args.worker.now c.stamp-stamp.new.worker h (record h { body = c.effect.new.self }) e c.stamp-stamp.result g.D.Deed.turns c.requires.held.agrees c.requires.deed.0 s.view s.above s.machine s.woken turn refl
