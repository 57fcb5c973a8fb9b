use Rattle.std.proofs.Common.{refl, ap}
use Rattle.flow_model.specs.Verdicts.{waits_for}
use Rattle.flow_machine.specs.FitNets.{FitNet}
use Rattle.flow_floor.specs.Workers.{view}
use Rattle.flow_floor.proofs.Idles.{dormant-there, finishes-seen, signals-seen, starts-seen}
use Rattle.flow_floor.proofs.Midways.{held-midway}
use Rattle.flow_floor.proofs.floor.Floor.idle_turn.Goals as goal

pub start_as-requires-clause-held : goal.start_as-requires-clause-held
start_as-requires-clause-held g c = let f = c.args.self.now in held-midway g.K.Component.rules f.table.shared.table_id f.layout.processes c.look_idle.new.worker c.args.held.now c.in-Start.ensures.held

pub start_as-requires-clause-happens : goal.start_as-requires-clause-happens
start_as-requires-clause-happens g c = let f = c.args.self.now in let h = c.args.held.now in
    starts-seen (FitNet g.K.Component.rules) f.layout.processes f.layout.connections h.process (view c.args.worker.now).steps h.body (view c.look_idle.new.worker).seen c.requires.wired c.requires.stage c.in-Start.ensures.idles

pub finish_as-requires-clause-held : goal.finish_as-requires-clause-held
finish_as-requires-clause-held g c = let f = c.args.self.now in held-midway g.K.Component.rules f.table.shared.table_id f.layout.processes c.look_idle.new.worker c.args.held.now c.in-Finish.ensures.held

pub finish_as-requires-clause-happens : goal.finish_as-requires-clause-happens
finish_as-requires-clause-happens g c = let f = c.args.self.now in let h = c.args.held.now in
    finishes-seen (FitNet g.K.Component.rules) f.layout.processes f.layout.connections h.process (view c.args.worker.now).steps h.body (view c.look_idle.new.worker).seen c.requires.wired c.requires.stage c.in-Finish.ensures.idles

pub returns-in-Dormant-clause-held : goal.returns-in-Dormant-clause-held
returns-in-Dormant-clause-held g c = let f = c.args.self.now in held-midway g.K.Component.rules f.table.shared.table_id f.layout.processes c.look_idle.new.worker c.args.held.now c.in-Dormant.ensures.held

pub returns-in-Dormant-clause-turned : goal.returns-in-Dormant-clause-turned
returns-in-Dormant-clause-turned g c = let f = c.args.self.now in let h = c.args.held.now in let s = c.in-Dormant.ensures in (
  (refl, s.looks.made),
  record {
    waits = ap (waits_for h.body.process) c.requires.stage;
    read = s.idles;
    stays = dormant-there f.table.shared.key.value h.body (view c.look_idle.new.worker).seen f.layout.processes (view c.args.worker.now).steps c.in-Dormant.word f.bodies c.requires.stage s.idles;
  },
)

pub signal_as-stamp-requires-clause-happens : goal.signal_as-stamp-requires-clause-happens
signal_as-stamp-requires-clause-happens g c = let f = c.args.self.now in let h = c.args.held.now in
    signals-seen (FitNet g.K.Component.rules) f.layout.processes f.layout.connections h.process (view c.args.worker.now).steps h.body (view c.look_idle.new.worker).seen c.requires.wired c.requires.stage c.in-Signal.connection c.in-Signal.packet c.in-Signal.ensures.idles
