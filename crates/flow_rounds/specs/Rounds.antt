-- A run by rounds: turns and works in some order, and between them processes that are tended. (This project's own.)
use Rattle.std.specs.Prelude.{◌≡◌, ℕ, List, [], ◌∷◌, Some, slice_get, slice_set}
use Rattle.flow_component.specs.Laws.{Rules}
use Rattle.flow_model.specs.States.{Process, State}
use Rattle.flow_model.specs.Events.{Event, seen_by}
use Rattle.flow_model.specs.Turns.{Turn}
use Rattle.flow_model.specs.Works.{Work}
use Rattle.flow_model.specs.Schedules.{IsClosed, Leads, Step, Turned, Worked, Reaches, journal_of}
use Rattle.flow_model.specs.Replaced.{OfEach, replaced, with_component}
use Rattle.flow_pieces.specs.Fed.{Fed, fed_rules}
use Rattle.flow_pieces.specs.Tended.{IsTended}
use Rattle.flow_rounds.specs.Whole.{HaveFiles, whole_of, IsFedFrom}

-- Process p is tended: its component alone changes.
pub record Tends {K : Type 0} (s : State (Fed K)) (p : ℕ) (s' : State (Fed K)) : Type 0 where
  pub before : Process (Fed K)
  pub after : Fed K
  pub there : slice_get s.kept.processes p ≡ Some before
  pub tended : IsTended before.component after
  pub processes : s'.kept.processes ≡ slice_set s.kept.processes p (with_component before after)
  pub channels : s'.kept.channels ≡ s.kept.channels
  pub past : s'.past ≡ s.past

-- A step of such a run: one of the machine, or a process is tended.
pub data RoundStep : Type 0 where
  Went : (step : Step) → RoundStep
  Tended : (p : ℕ) → RoundStep

-- The steps lead from s to s', each defined in its place.
abbrev pub RoundsReach : {K : Type 0} → Rules K → State (Fed K) → List RoundStep → State (Fed K) → Type 0
RoundsReach rules s [] s' = s' ≡ s
RoundsReach {K} rules s (Went (Turned p seen) ∷ steps) s' = (event : Event) × (mid : State (Fed K)) × Turn s p event mid × (seen ≡ seen_by event) × RoundsReach rules mid steps s'
RoundsReach {K} rules s (Went (Worked p) ∷ steps) s' = (mid : State (Fed K)) × Work (fed_rules rules) s p mid × RoundsReach rules mid steps s'
RoundsReach {K} rules s (Tended p ∷ steps) s' = (mid : State (Fed K)) × Tends s p mid × RoundsReach rules mid steps s'

-- The steps of the machine alone.
abbrev pub machine_steps : List RoundStep → List Step
machine_steps [] = []
machine_steps (Went step ∷ steps) = step ∷ machine_steps steps
machine_steps (Tended p ∷ steps) = machine_steps steps

-- The machine's steps of a run by rounds are steps of the network of the whole files, whatever these are of which the readers were given the fronts.
abbrev pub RoundsReachWhole : {K : Type 0} → Rules K → Type 0
RoundsReachWhole {K} rules =
    (reading : List (List ℕ) → K) (writing : List ℕ → K) → HaveFiles rules reading writing → (files : ℕ → List ℕ) (steps : List RoundStep) (s s' : State (Fed K))
    → OfEach (IsFedFrom files) s'
    → RoundsReach rules s steps s'
    → Reaches rules (replaced (whole_of reading writing files) s) (machine_steps steps) (replaced (whole_of reading writing files) s')

-- Where no work is pending at its beginning and at its end, its turns are one schedule of that network.
abbrev pub RoundsAreOneSchedule : {K : Type 0} → Rules K → Type 0
RoundsAreOneSchedule {K} rules =
    (reading : List (List ℕ) → K) (writing : List ℕ → K) → HaveFiles rules reading writing → (files : ℕ → List ℕ) (steps : List RoundStep) (s s' : State (Fed K))
    → OfEach (IsFedFrom files) s'
    → RoundsReach rules s steps s'
    → IsClosed s
    → IsClosed s'
    → Leads rules (replaced (whole_of reading writing files) s) (journal_of (machine_steps steps)) (replaced (whole_of reading writing files) s')
