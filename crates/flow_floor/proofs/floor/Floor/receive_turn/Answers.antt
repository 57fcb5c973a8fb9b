use Rattle.std.proofs.Common.{◌≡◌, ◌+◌, ◌<◌, ◌∙◌, [], refl, sym, ap, subst, arith, inl, Option}
use Rattle.flow_ring.specs.Words.{level_in, senders_in}
use Rattle.flow_floor.proofs.Came.{waits-empty, kept-after}
use Rattle.flow_floor.specs.declared.board.Receiving.{Receiving}
use Rattle.flow_floor.specs.Ends.{MayDraw}
use Rattle.flow_floor.specs.Plays.{drawn_count}
use Rattle.flow_floor.specs.Views.{seeing}
use Rattle.flow_floor.specs.Workers.{view}
use Rattle.flow_floor.proofs.Idles.{empty-seen}
use Rattle.flow_floor.proofs.Looking.{not-none}
use Rattle.flow_floor.proofs.Holding.{held-seated}
use Rattle.flow_floor.proofs.Midways.{held-looked, midway-drawn, receives-held}
use Rattle.flow_floor.proofs.Turnings.{sound-drawn}
use Rattle.flow_floor.proofs.floor.Floor.receive_turn.Goals as goal

pub draw-requires-clause-seated : goal.draw-requires-clause-seated
draw-requires-clause-seated g c = let f = c.args.self.now in held-seated g.K.Component.rules f.table.shared.table_id f.layout.processes c.args.worker.now c.args.held.now c.requires.held

pub draw-requires-clause-receives : goal.draw-requires-clause-receives
draw-requires-clause-receives g c = receives-held g.K.Component.rules g.met.K.Component.lawful c.args.worker.now c.args.held.now c.args.connection c.requires.held.agrees (inl (c.args.port.0, c.requires.input))

pub draw-requires-clause-may : goal.draw-requires-clause-may
draw-requires-clause-may g c = subst (λ (o : Option Receiving). MayDraw c.args.connection o) (sym c.requires.held.calm.receiving) tt

pub draw-requires-clause-count : goal.draw-requires-clause-count
draw-requires-clause-count g c = ap drawn_count c.requires.held.calm.receiving

pub returns-then-senders-ne0-clause-held : goal.returns-then-senders-ne0-clause-held
returns-then-senders-ne0-clause-held g c = let f = c.args.self.now in let e = c.in-Nothing.ensures in
    held-looked g.K.Component.rules f.table.shared.table_id f.layout.processes c.args.worker.now c.draw.new.worker c.args.held.now (seeing (view c.args.worker.now) (f.layout.processes + c.args.connection) c.in-Nothing.word) c.requires.held e.seated e.drawn.1 refl refl refl refl

pub returns-then-senders-ne0-clause-turned : goal.returns-then-senders-ne0-clause-turned
returns-then-senders-ne0-clause-turned g c = let f = c.args.self.now in let e = c.in-Nothing.ensures.drawn in let start = f.table.shared.key.value in let b = c.args.held.now.body in
    let old = view c.args.worker.now in let new = view c.draw.new.worker in let word = c.in-Nothing.word in
    let kept = kept-after old old new f.layout.processes c.args.connection word (omega arith) (ap (λ v. v.seen) e.1) in
    let none_in : level_in word ≡ 0 = omega (arith, e.0) in
    let opened : 0 < senders_in word = not-none (senders_in word) (λ none. c.if-senders-ne0.true (c.senders.ensures.word ∙ none)) in (
      (refl, ap (λ v. v.made) e.1),
      record {
        waits = waits-empty b.process c.args.port c.args.connection c.requires.stage c.requires.input;
        read = (kept, none_in, opened);
        stays = empty-seen start b new.seen f.layout.processes old.steps c.args.connection word c.args.port f.bodies c.requires.stage c.requires.input kept none_in opened;
      },
    )

pub end_as-requires-clause-held : goal.end_as-requires-clause-held
end_as-requires-clause-held g c = let f = c.args.self.now in let e = c.in-Nothing.ensures in
    held-looked g.K.Component.rules f.table.shared.table_id f.layout.processes c.args.worker.now c.draw.new.worker c.args.held.now (seeing (view c.args.worker.now) (f.layout.processes + c.args.connection) c.in-Nothing.word) c.requires.held e.seated e.drawn.1 refl refl refl refl

pub got_as-stamp-requires-clause-held : goal.got_as-stamp-requires-clause-held
got_as-stamp-requires-clause-held g c = let f = c.args.self.now in let e = c.in-Packet.ensures in
    midway-drawn g.K.Component.rules f.table.shared.table_id f.layout.processes c.args.worker.now c.draw.new.worker c.args.held.now c.args.connection c.in-Packet.field-0 c.in-Packet.packet c.requires.held e.seated e.drawn.1

pub got_as-stamp-requires-clause-sound : goal.got_as-stamp-requires-clause-sound
got_as-stamp-requires-clause-sound g c = let q = c.requires.held in
    sound-drawn g.K.Component.rules g.met.K.Component.lawful (view c.args.worker.now) c.args.held.now.process c.args.connection c.args.port q.agrees.base c.args.held.now.body c.in-Packet.packet (c.in-Packet.ensures.drawn.0 [] (λ r. tt)) q.calm.receiving q.agrees.held q.agrees.rests c.requires.stage c.requires.input
