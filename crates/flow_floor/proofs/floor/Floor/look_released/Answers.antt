use Rattle.std.proofs.Common.{◌∙◌, sym}
use Rattle.flow_floor.specs.Workers.{view}
use Rattle.flow_floor.proofs.Looking.{finds-held, looks-none}
use Rattle.flow_floor.proofs.Midways.{midway-held}
use Rattle.flow_floor.proofs.floor.Floor.look_released.Goals as goal

pub returns-then-signalled-clause-held : goal.returns-then-signalled-clause-held
returns-then-signalled-clause-held g c = let f = c.args.self.now in midway-held g.K.Component.rules f.table.shared.table_id f.layout.processes c.args.worker.now c.args.held.now c.requires.held

pub returns-then-signalled-clause-looks : goal.returns-then-signalled-clause-looks
returns-then-signalled-clause-looks g c = looks-none (view c.args.worker.now)

pub returns-clause-finds : goal.returns-clause-finds
returns-clause-finds g c = finds-held _ _ c.args.held.now.body.process _ c.draw_signal.result (sym c.signalled.ensures ∙ c.if-signalled.false) c.draw_signal.ensures.finds
