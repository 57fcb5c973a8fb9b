-- What is told of a state is told of it with players too.
use Rattle.std.specs.Prelude.{◌≡◌, ◌↔◌, ℕ, List, slice_get}
use Rattle.std.specs.Option.{option_map}
use Rattle.flow_plan.specs.Network.{Network}
use Rattle.flow_own.specs.declared.tape.Entry.{Entry}
use Rattle.flow_own.specs.Mixed.{Mixed}
use Rattle.flow_model.specs.States.{State}
use Rattle.flow_model.specs.Verdicts.{Quiet}
use Rattle.flow_model.specs.Replaced.{with_component}
use Rattle.flow_report.specs.Text.{Told}
use Rattle.flow_report.specs.States.{TellsOf}
use Rattle.flow_played.specs.Played.{played_by, played}

-- No process can go on with the players where none can without them, and the other way round.
abbrev pub PlayersAreQuiet : Type 0 → Type 0
PlayersAreQuiet K = (tapes : ℕ → List Entry) (s : State (Mixed K)) → Quiet s ↔ Quiet (played tapes s)

-- At each place stands the process that stood there, with its player where its component is the caller's own, and with its component otherwise.
abbrev pub PlayersStandInPlace : Type 0 → Type 0
PlayersStandInPlace K =
    (tapes : ℕ → List Entry) (s : State (Mixed K)) (p : ℕ)
    → slice_get (played tapes s).kept.processes p ≡ option_map (λ x. with_component x (played_by tapes p x.component)) (slice_get s.kept.processes p)

-- What a report tells of a state it tells of the state with the players.
abbrev pub PlayersAreToldOf : Type 0 → Type 0
PlayersAreToldOf K = (tapes : ℕ → List Entry) (plan : Network) (s : State (Mixed K)) (told : Told) → TellsOf plan s told → TellsOf plan (played tapes s) told
