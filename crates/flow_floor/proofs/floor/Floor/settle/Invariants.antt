use Rattle.std.proofs.Common.{◌≡◌, length}
use Rattle.flow_floor.specs.Bursting.{ArePassed}
use Rattle.flow_floor.specs.InHand.{IsPending}
use Rattle.flow_floor.specs.Workers.{view}
use Rattle.flow_floor.proofs.floor.Floor.settle.Given as goal

-- the turns of the burst
abbrev pub ghosts-stamp_all : goal.ghosts-stamp_all
ghosts-stamp_all g a = record {
  are = λ turns. (length turns ≡ a.turns) × ArePassed g.began turns × IsPending g.K.Component.rules a.self.now.layout.processes a.self.now.layout.connections (view a.worker.now) turns a.held.now.process a.held.now.body;
  start = a.self.now.table.shared.key.value;
}
