use Rattle.std.proofs.Common.{◌-◌, [], Option, None, Some, length, refl, ap, slice_get, subst}
use Rattle.flow_model.specs.States.{outlets}
use Rattle.flow_floor.specs.Turning.{closed_event}
use Rattle.flow_floor.proofs.Deeds.{close-deed}
use Rattle.flow_floor.specs.declared.board.Sending.{Sending}
use Rattle.flow_floor.specs.Ends.{sending_at}
use Rattle.flow_floor.specs.Midway.{IsMidway}
use Rattle.flow_floor.proofs.Midways.{makes-one, may-one, midway-seated, midway-turned}
use Rattle.flow_floor.proofs.Turnings.{any_channel, close-after, close-happens, close-may}
use Rattle.flow_floor.proofs.floor.Floor.close_as.Goals as goal

pub stamp-stamp-requires-clause-count : goal.stamp-stamp-requires-clause-count
stamp-stamp-requires-clause-count g c = ap (λ ts. length ts) c.requires.deed.0

pub stamp-stamp-requires-clause-seated : goal.stamp-stamp-requires-clause-seated
stamp-stamp-requires-clause-seated g c = let f = c.args.self.now in midway-seated g.K.Component.rules f.table.shared.table_id f.layout.processes c.args.worker.now c.args.held.now _ _ _ c.requires.held

pub stamp-stamp-requires-clause-pending : goal.stamp-stamp-requires-clause-pending
stamp-stamp-requires-clause-pending g c = let f = c.args.self.now in let h = c.args.held.now in
    may-one g.K.Component.rules f.table.shared.table_id f.layout.processes f.layout.connections c.args.worker.now h (Some (sending_at c.args.connection)) None [] (closed_event (slice_get (outlets h.body.process) c.args.place)) g.D.Deed.turns c.requires.held c.requires.deed.0 (close-may (slice_get (outlets h.body.process) c.args.place) c.args.connection None c.requires.outlet)
    (close-happens _ _ _ _ h.body (Some (sending_at c.args.connection)) None _ c.args.connection c.args.place c.requires.stage c.requires.outlet)

pub returns-clause-held : goal.returns-clause-held
returns-clause-held g c = let f = c.args.self.now in let h = c.args.held.now in let n = c.stamp-stamp.ensures in
    let turn = (close-deed h.body c.effect.new.self (slice_get (outlets h.body.process) c.args.place) c.args.connection c.stamp-stamp.result any_channel (record any_channel { open_senders = 0 - 1 }) (closed_event (slice_get (outlets h.body.process) c.args.place)) refl c.requires.outlet refl c.effect.ensures).0 in
    subst (λ (s : Option Sending). IsMidway g.K.Component.rules f.table.shared.table_id f.layout.processes c.stamp-stamp.new.worker (record h { body = c.effect.new.self }) s None []) (close-after (slice_get (outlets h.body.process) c.args.place) c.args.connection c.requires.outlet)
    (midway-turned g.K.Component.rules f.table.shared.table_id f.layout.processes c.args.worker.now c.stamp-stamp.new.worker h (record h { body = c.effect.new.self }) (Some (sending_at c.args.connection)) None [] (closed_event (slice_get (outlets h.body.process) c.args.place)) c.stamp-stamp.result g.D.Deed.turns c.requires.held n.seated c.requires.deed.0 n.view turn refl)

pub returns-clause-turn : goal.returns-clause-turn
returns-clause-turn g c = let h = c.args.held.now in let n = c.stamp-stamp.ensures in
    let turn = (close-deed h.body c.effect.new.self (slice_get (outlets h.body.process) c.args.place) c.args.connection c.stamp-stamp.result any_channel (record any_channel { open_senders = 0 - 1 }) (closed_event (slice_get (outlets h.body.process) c.args.place)) refl c.requires.outlet refl c.effect.ensures).0 in
    makes-one g.K.Component.rules c.args.self.now.table.shared.key.value c.args.worker.now c.stamp-stamp.new.worker h (record h { body = c.effect.new.self }) (closed_event (slice_get (outlets h.body.process) c.args.place)) c.stamp-stamp.result g.D.Deed.turns c.requires.held.agrees c.requires.deed.0 n.view n.above n.machine n.woken turn refl
