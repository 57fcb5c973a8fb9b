use Rattle.std.proofs.Common.{[], ◌∷◌, slice_get}
use Rattle.flow_model.specs.Events.{is_fresh}
use Rattle.flow_machine.specs.Effects.{text_event}
use Rattle.flow_floor.proofs.floor.Floor.text_turn.Given as goal

abbrev pub ghosts-text_as : goal.ghosts-text_as
ghosts-text_as g a = record { turns = record { body = a.held.now.body; event = text_event a.port.0 (is_fresh a.held.now.body.process a.port.0) (slice_get a.held.now.body.process.inputs a.port.0) } ∷ []; start = a.self.now.table.shared.key.value }
