use Rattle.std.proofs.Common.{◌+◌, ◌≤◌, ◌∙◌, refl, sym, ap, subst, arith, inr, Option}
use Rattle.flow_floor.specs.declared.board.Receiving.{Receiving}
use Rattle.flow_floor.specs.Ends.{MayDraw}
use Rattle.flow_floor.specs.Plays.{drawn_count}
use Rattle.flow_floor.specs.Views.{drawing, emptying, seeing}
use Rattle.flow_floor.specs.Workers.{view, IsHeldBy}
use Rattle.flow_floor.proofs.Looking.{looks-one, looks-on, signal-none, signal-sender}
use Rattle.flow_floor.proofs.Holding.{held-seated}
use Rattle.flow_floor.proofs.Midways.{held-looked, midway-drawn, midway-held, receives-held}
use Rattle.flow_floor.proofs.floor.Floor.draw_signal.Goals as goal
use Rattle.flow_floor.proofs.floor.Floor.draw_signal.Goals.{In-Nothing}

pub draw-requires-clause-seated : goal.draw-requires-clause-seated
draw-requires-clause-seated g c = let f = c.args.self.now in held-seated g.K.Component.rules f.table.shared.table_id f.layout.processes c.args.worker.now c.args.held.now c.requires.held

pub draw-requires-clause-range : goal.draw-requires-clause-range
draw-requires-clause-range g c = c.requires.wired c.in-Some.connection (sym c.signal.ensures ∙ c.in-Some.is)

pub draw-requires-clause-receives : goal.draw-requires-clause-receives
draw-requires-clause-receives g c = receives-held g.K.Component.rules g.met.K.Component.lawful c.args.worker.now c.args.held.now c.in-Some.connection c.requires.held.agrees (inr (sym c.signal.ensures ∙ c.in-Some.is))

pub draw-requires-clause-may : goal.draw-requires-clause-may
draw-requires-clause-may g c = subst (λ (o : Option Receiving). MayDraw c.in-Some.connection o) (sym c.requires.held.calm.receiving) tt

pub draw-requires-clause-count : goal.draw-requires-clause-count
draw-requires-clause-count g c = ap drawn_count c.requires.held.calm.receiving

pub returns-in-Packet-clause-held : goal.returns-in-Packet-clause-held
returns-in-Packet-clause-held g c = let f = c.args.self.now in let e = c.in-Packet.ensures in
    midway-drawn g.K.Component.rules f.table.shared.table_id f.layout.processes c.args.worker.now c.draw.new.worker c.args.held.now c.in-Some.connection c.in-Packet.field-0 c.in-Packet.packet c.requires.held e.seated e.drawn.1

pub returns-in-Packet-clause-looks : goal.returns-in-Packet-clause-looks
returns-in-Packet-clause-looks g c = looks-on (view c.args.worker.now) (view c.draw.new.worker) (emptying (drawing (view c.args.worker.now) c.in-Some.connection c.in-Packet.field-0 c.in-Packet.packet)) c.in-Packet.ensures.drawn.1 refl (let v = view c.args.worker.now in let l : v.steps ≤ v.steps + 1 + 1 = omega arith in l) refl

-- The worker holds the body and nothing else.
looked-held : (g : _) (c : In-Nothing g) → IsHeldBy g.K.Component.rules c.args.self.now.table.shared.table_id c.args.self.now.layout.processes c.draw.new.worker c.args.held.now
looked-held g c = let f = c.args.self.now in let e = c.in-Nothing.ensures in let v = view c.args.worker.now in
    held-looked g.K.Component.rules f.table.shared.table_id f.layout.processes c.args.worker.now c.draw.new.worker c.args.held.now (seeing v (f.layout.processes + c.in-Some.connection) c.in-Nothing.word) c.requires.held e.seated e.drawn.1 refl refl refl refl

pub returns-in-Some-first_open-clause-held : goal.returns-in-Some-first_open-clause-held
returns-in-Some-first_open-clause-held g c = let f = c.args.self.now in midway-held g.K.Component.rules f.table.shared.table_id f.layout.processes c.draw.new.worker c.args.held.now (looked-held g (goal.at.returns-in-Some-first_open-clause-held g c).In-Nothing)

pub returns-in-Some-first_open-clause-looks : goal.returns-in-Some-first_open-clause-looks
returns-in-Some-first_open-clause-looks g c = looks-one (view c.args.worker.now) (view c.draw.new.worker) (c.args.self.now.layout.processes + c.in-Some.connection) c.in-Nothing.word c.in-Nothing.ensures.drawn.1

pub returns-in-Some-first_open-clause-finds : goal.returns-in-Some-first_open-clause-finds
returns-in-Some-first_open-clause-finds g c = let e = c.in-Nothing.ensures.drawn in
    signal-sender c.args.self.now.layout.processes c.in-Some.connection c.in-Nothing.word c.args.held.now.body.process.signal (view c.args.worker.now) (view c.draw.new.worker) (sym c.signal.ensures ∙ c.in-Some.is) e.1 c.in-Some-first_open.word (omega (arith, e.0)) (sym c.first_open.ensures ∙ c.in-Some-first_open.is)

pub returns-in-None-clause-held : goal.returns-in-None-clause-held
returns-in-None-clause-held g c = let f = c.args.self.now in midway-held g.K.Component.rules f.table.shared.table_id f.layout.processes c.draw.new.worker c.args.held.now (looked-held g (goal.at.returns-in-None-clause-held g c).In-Nothing)

pub returns-in-None-clause-looks : goal.returns-in-None-clause-looks
returns-in-None-clause-looks g c = looks-one (view c.args.worker.now) (view c.draw.new.worker) (c.args.self.now.layout.processes + c.in-Some.connection) c.in-Nothing.word c.in-Nothing.ensures.drawn.1

pub returns-in-None-clause-finds : goal.returns-in-None-clause-finds
returns-in-None-clause-finds g c = let e = c.in-Nothing.ensures.drawn in
    signal-none c.args.self.now.layout.processes c.in-Some.connection c.in-Nothing.word c.args.held.now.body.process.signal (view c.args.worker.now) (view c.draw.new.worker) (sym c.signal.ensures ∙ c.in-Some.is) e.1 (omega (arith, e.0)) (sym c.first_open.ensures ∙ c.in-None.is)
