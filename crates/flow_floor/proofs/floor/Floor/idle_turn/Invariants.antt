use Rattle.std.proofs.Common.{[], ◌∷◌}
use Rattle.flow_model.specs.Events.{Finishes, Signals, Starts}
use Rattle.flow_floor.proofs.floor.Floor.idle_turn.Given as goal

abbrev pub ghosts-start_as : goal.ghosts-start_as
ghosts-start_as g a = record { turns = record { body = a.held.now.body; event = Starts } ∷ []; start = a.self.now.table.shared.key.value }

abbrev pub ghosts-finish_as : goal.ghosts-finish_as
ghosts-finish_as g a = record { turns = record { body = a.held.now.body; event = Finishes } ∷ []; start = a.self.now.table.shared.key.value }

-- the packet that was drawn is taken
abbrev pub ghosts-signal_as : goal.ghosts-signal_as
ghosts-signal_as g a = record { turns = record { body = a.held.now.body; event = Signals a.connection a.packet } ∷ []; start = a.self.now.table.shared.key.value }
