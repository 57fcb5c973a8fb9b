use Rattle.std.proofs.Common.{◌∙◌, [], None, Some, refl, ap, arith}
use Rattle.flow_machine.specs.Nets.{packet_wished}
use Rattle.flow_floor.proofs.Came.{waits-full, at-send, is-busy, kept-after, seen-there}
use Rattle.flow_floor.specs.Ends.{sending_at}
use Rattle.flow_floor.specs.Views.{exiting}
use Rattle.flow_floor.specs.Workers.{view}
use Rattle.flow_floor.proofs.Rolls.{readies-none}
use Rattle.flow_floor.proofs.Idles.{full-seen}
use Rattle.flow_floor.proofs.Midways.{held-midway, midway-next, midway-seated}
use Rattle.flow_floor.proofs.Planned.{channel-there}
use Rattle.flow_floor.proofs.Turnings.{parcel-is}
use Rattle.flow_floor.proofs.floor.Floor.send_turn.Goals as goal

pub arrive-requires-clause-output : goal.arrive-requires-clause-output
arrive-requires-clause-output g c = (c.args.port.0, c.requires.output)

pub returns-in-Some-clause-turned : goal.returns-in-Some-clause-turned
returns-in-Some-clause-turned g c = let f = c.args.self.now in let b = c.args.held.now.body in let e = c.in-Some.ensures.came in let v = view c.args.worker.now in (
  (refl, ap (λ v. v.made) e.3),
  is-busy f.layout.processes f.layout.connections f.table.shared.key.value b v (view c.arrive.new.worker) c.args.connection c.in-Some.word (at-send b.process c.args.port c.args.connection c.requires.stage c.requires.output) e.1 c.requires.held.calm.sending e.2 e.3,
)

pub send_as-requires-clause-parcel : goal.send_as-requires-clause-parcel
send_as-requires-clause-parcel g c = parcel-is (packet_wished c.args.held.now.body.process)

pub depart-requires-clause-seated : goal.depart-requires-clause-seated
depart-requires-clause-seated g c = let f = c.args.self.now in midway-seated g.K.Component.rules f.table.shared.table_id f.layout.processes c.send_as.new.worker c.send_as.new.held _ _ _ c.in-Full.ensures.sent.2

pub depart-requires-clause-told : goal.depart-requires-clause-told
depart-requires-clause-told g c = (sending_at c.args.connection, c.in-Full.ensures.sent.2.sends, refl, record { placed = refl; out = refl; published = refl; subtracted = refl })

pub returns-in-Full-clause-held : goal.returns-in-Full-clause-held
returns-in-Full-clause-held g c = let f = c.args.self.now in let q = c.in-Full.ensures.sent.2 in let e = c.depart.ensures in
    held-midway g.K.Component.rules f.table.shared.table_id f.layout.processes c.depart.new.worker c.send_as.new.held
    (midway-next g.K.Component.rules f.table.shared.table_id f.layout.processes c.send_as.new.worker c.depart.new.worker c.send_as.new.held (Some (sending_at c.args.connection)) None None None [] [] (exiting (view c.send_as.new.worker)) q e.seated e.view refl refl q.receives q.noted)

pub returns-in-Full-clause-turned : goal.returns-in-Full-clause-turned
returns-in-Full-clause-turned g c = let f = c.args.self.now in let b = c.args.held.now.body in let a = c.in_default.ensures.came in let full = c.in-Full.ensures.sent in let d = c.depart.ensures in let start = f.table.shared.key.value in
    let old = view c.args.worker.now in let there = view c.arrive.new.worker in let new = view c.depart.new.worker in
    let arrived = a.1 in
    let kept = kept-after old there new f.layout.processes c.args.connection c.in-Full.word (let steps = ap (λ v. v.steps) arrived in omega (arith, steps)) (ap (λ v. v.seen) d.view ∙ ap (λ v. v.seen) full.3 ∙ seen-there there old f.layout.processes c.args.connection c.in-Full.word (ap (λ v. v.seen) arrived)) in (
      (full.1, ap (λ v. v.made) d.view ∙ ap (λ v. v.made) full.3 ∙ ap (λ v. v.made) arrived),
      record {
        waits = waits-full b.process c.args.port c.args.connection c.requires.stage c.requires.output;
        read = (kept, full.0);
        stays = full-seen start b new.seen f.layout.processes old.steps c.args.connection c.in-Full.word c.args.port f.bodies (channel-there f c.args.connection c.requires.range) c.requires.stage c.requires.output kept full.0;
      },
    )

pub returns-in-Full-clause-readies : goal.returns-in-Full-clause-readies
returns-in-Full-clause-readies g c = let a = c.in_default.ensures in let full = c.in-Full.ensures in let d = c.depart.ensures in
    readies-none c.args.self.now c.args.worker.now c.depart.new.worker (d.woken ∙ full.woken ∙ a.woken ∙ c.requires.clear) (ap (λ v. v.readied) d.view ∙ ap (λ v. v.readied) full.sent.3 ∙ ap (λ v. v.readied) a.came.1)
