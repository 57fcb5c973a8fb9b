-- What turns and works leave of the readers and writers of a network: only who tends them changes it. (This project's own.)
use Rattle.std.specs.Prelude.{◌≡◌, ℕ, List, ◌++◌, Some, slice_get}
use Rattle.flow_component.specs.Laws.{Rules}
use Rattle.flow_model.specs.States.{Process, State}
use Rattle.flow_model.specs.Schedules.{Step, Reaches}
use Rattle.flow_pieces.specs.Fed.{Fed, Reader, Writer, Other, fed_rules}

-- All that a reader was given is what it was, and it ends where it ended; what was taken from a writer is what it was.
abbrev pub IsLeft : {K : Type 0} → Fed K → Fed K → Type 0
IsLeft (Reader old) (Reader new) = (new.gone ++ new.left ≡ old.gone ++ old.left) × (new.ended ≡ old.ended)
IsLeft (Writer old) (Writer new) = new.gone ≡ old.gone
IsLeft (Other old) (Other new) = Unit {0}
IsLeft (Reader old) other = ⊥
IsLeft (Writer old) other = ⊥
IsLeft (Other old) other = ⊥

-- Turns and works in any order leave it so of the component of each process.
abbrev pub StepsLeaveFiles : {K : Type 0} → Rules K → Type 0
StepsLeaveFiles {K} rules =
    (steps : List Step) (s s' : State (Fed K)) → Reaches (fed_rules rules) s steps s' → (p : ℕ) (x : Process (Fed K)) → slice_get s.kept.processes p ≡ Some x
    → (y : Process (Fed K)) × (slice_get s'.kept.processes p ≡ Some y) × IsLeft x.component y.component
