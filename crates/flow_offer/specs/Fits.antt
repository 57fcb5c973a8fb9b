-- The components of the caller's own that processes have, as far as the plan says them.
use Rattle.std.specs.Prelude.{ℕ, List, [], Option, None}
use Rattle.std.specs.List.{filter, range_with_len}
use Rattle.flow_component.specs.declared.Shape.{Shape}
use Rattle.flow_component.specs.Laws.{Rules}
use Rattle.flow_own.specs.declared.tape.Entry.{Entry}
use Rattle.flow_own.specs.Parts.{Seen}
use Rattle.flow_own.specs.Tapes.{OwnValue}
use Rattle.flow_own.specs.Mixed.{Other, Own, mixed_rules}
use Rattle.flow_played.specs.Rules.{player, played_rules}
use Rattle.flow_plan.specs.declared.plan.Process.{Process}
use Rattle.flow_plan.specs.Network.{Network}
use Rattle.flow_model.specs.Ready.{ComponentFits}
use Rattle.flow_catalogue.specs.Processes.{is_connected}

-- As many inputs and outputs as the process has.
abbrev pub shape_of : Process → Shape
shape_of process = record { inputs = process.inputs; outputs = process.outputs }

-- The numbers of the outputs of process p that send to a connection, where it has so many: they rise.
abbrev pub used_outputs : Network → ℕ → ℕ → List ℕ
used_outputs plan p outputs = filter (is_connected plan p) (range_with_len 0 outputs)

-- The player of a tape at process p, before its first entry.
abbrev pub player_at : Network → ℕ → Process → List Entry → OwnValue
player_at plan p process tape = player tape (shape_of process) (used_outputs plan p process.outputs)

-- The part at process p, with an empty tape; without the part it is the state of one.
abbrev pub part_at : Network → ℕ → Process → Option Seen → OwnValue
part_at plan p process part = record { part = part; place = None; tape = []; shape = shape_of process; used = used_outputs plan p process.outputs }

-- In a network of live parts and players: a player of any tape fits its process, and so does a part with an empty tape; any other component fits where it does by itself.
pub record FitsMixed {K : Type 0} (rules : Rules K) : Type 0 where
  pub players : (plan : Network) (p : ℕ) (process : Process) (tape : List Entry) → ComponentFits (mixed_rules rules) plan p process (Own (player_at plan p process tape))
  pub parts : (plan : Network) (p : ℕ) (process : Process) (part : Option Seen) → ComponentFits (mixed_rules rules) plan p process (Own (part_at plan p process part))
  pub others : (plan : Network) (p : ℕ) (process : Process) (component : K) → ComponentFits rules plan p process component → ComponentFits (mixed_rules rules) plan p process (Other component)

-- In a network in which each component of the caller's own is a player: the player of any tape fits its process, and any other component where it does by itself.
pub record FitsPlayed {K : Type 0} (rules : Rules K) : Type 0 where
  pub players : (plan : Network) (p : ℕ) (process : Process) (tape : List Entry) → ComponentFits (played_rules rules) plan p process (Own (player_at plan p process tape))
  pub others : (plan : Network) (p : ℕ) (process : Process) (component : K) → ComponentFits rules plan p process component → ComponentFits (played_rules rules) plan p process (Other component)
