use Rattle.std.proofs.Common.{[], ◌∷◌}
use Rattle.flow_model.specs.Events.{Sleeps}
use Rattle.flow_floor.proofs.floor.Floor.sleep_turn.Given as goal

abbrev pub ghosts-deactivate_as : goal.ghosts-deactivate_as
ghosts-deactivate_as g a = record { turns = record { body = a.held.now.body; event = Sleeps } ∷ []; start = a.self.now.table.shared.key.value }
