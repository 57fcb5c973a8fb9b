use Rattle.std.proofs.Common.{◌+◌, ◌∙◌, [], None, Some, refl, sym}
use Rattle.flow_floor.specs.Ends.{sending_at}
use Rattle.flow_floor.specs.Views.{entering, looked}
use Rattle.flow_floor.specs.Workers.{view}
use Rattle.flow_floor.proofs.Holding.{held-seated}
use Rattle.flow_floor.proofs.Midways.{held-looked, midway-held, midway-next, sends-held}
use Rattle.flow_floor.proofs.floor.Floor.arrive.Goals as goal

pub come-requires-clause-seated : goal.come-requires-clause-seated
come-requires-clause-seated g c = let f = c.args.self.now in held-seated g.K.Component.rules f.table.shared.table_id f.layout.processes c.args.worker.now c.args.held.now c.requires.held

pub come-requires-clause-sends : goal.come-requires-clause-sends
come-requires-clause-sends g c = sends-held g.K.Component.rules g.met.K.Component.lawful c.args.worker.now c.args.held.now c.args.connection c.requires.held.agrees c.requires.output

pub enter-word-requires-clause-seated : goal.enter-word-requires-clause-seated
enter-word-requires-clause-seated g c = let f = c.args.self.now in held-seated g.K.Component.rules f.table.shared.table_id f.layout.processes c.args.worker.now c.args.held.now c.requires.held

pub enter-word-requires-clause-sends : goal.enter-word-requires-clause-sends
enter-word-requires-clause-sends g c = sends-held g.K.Component.rules g.met.K.Component.lawful c.args.worker.now c.args.held.now c.args.connection c.requires.held.agrees c.requires.output

pub returns-then-not-is_shared-clause-came : goal.returns-then-not-is_shared-clause-came
returns-then-not-is_shared-clause-came g c = let f = c.args.self.now in let q = c.requires.held in let e = c.come.ensures in let v = view c.args.worker.now in (
  midway-next g.K.Component.rules f.table.shared.table_id f.layout.processes c.args.worker.now c.come.new.worker c.args.held.now None (Some (sending_at c.args.connection)) None None [] [] (entering v c.args.connection)
      (midway-held g.K.Component.rules f.table.shared.table_id f.layout.processes c.args.worker.now c.args.held.now q) e.seated e.view refl refl q.calm.receiving q.calm.noted,
  e.view,
)

pub returns-then-word-eq-FREE-clause-came : goal.returns-then-word-eq-FREE-clause-came
returns-then-word-eq-FREE-clause-came g c = let f = c.args.self.now in let q = c.requires.held in let e = c.enter-word.ensures in let v = view c.args.worker.now in
    let is = e.free c.if-word-eq-FREE.true in (
      midway-next g.K.Component.rules f.table.shared.table_id f.layout.processes c.args.worker.now c.enter-word.new.worker c.args.held.now None (Some (sending_at c.args.connection)) None None [] [] (entering v c.args.connection)
          (midway-held g.K.Component.rules f.table.shared.table_id f.layout.processes c.args.worker.now c.args.held.now q) e.seated is refl refl q.calm.receiving q.calm.noted,
      is,
    )

pub returns-else-word-eq-FREE-clause-came : goal.returns-else-word-eq-FREE-clause-came
returns-else-word-eq-FREE-clause-came g c = let f = c.args.self.now in let q = c.requires.held in let e = c.enter-word.ensures in let v = view c.args.worker.now in
    let is = e.taken c.if-word-eq-FREE.false in (
      held-looked g.K.Component.rules f.table.shared.table_id f.layout.processes c.args.worker.now c.enter-word.new.worker c.args.held.now (looked v (f.layout.processes + f.layout.connections + c.args.connection) c.enter-word.result) q e.seated is refl refl refl refl,
      sym c.is_shared.ensures ∙ c.if-not-is_shared.false,
      e.one c.if-word-eq-FREE.false,
      is,
    )
