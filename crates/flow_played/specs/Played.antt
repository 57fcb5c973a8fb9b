-- A state with the players of tapes in the place of the parts that were recorded.
use Rattle.std.specs.Prelude.{◌≡◌, ℕ, List, length, Some, None}
use Rattle.flow_component.specs.Laws.{Rules}
use Rattle.flow_own.specs.declared.tape.Entry.{Entry}
use Rattle.flow_own.specs.Tapes.{OwnValue}
use Rattle.flow_model.specs.States.{State}
use Rattle.flow_model.specs.Schedules.{Journal, Leads}
use Rattle.flow_model.specs.Replaced.{replaced, OfEach}
use Rattle.flow_own.specs.Mixed.{Mixed, Other, Own, mixed_rules}
use Rattle.flow_played.specs.Rules.{played_rules}

-- The player of a tape, at the place to which this part's tape has come.
abbrev pub player_of : List Entry → OwnValue → OwnValue
player_of tape own = record { part = None; place = Some (length own.tape); tape = tape; shape = own.shape; used = own.used }

-- The same of a component of process p, where these are the tapes by process. All that aren't the caller's own stay.
abbrev pub played_by : {K : Type 0} → (ℕ → List Entry) → ℕ → Mixed K → Mixed K
played_by tapes p (Other component) = Other component
played_by tapes p (Own own) = Own (player_of (tapes p) own)

-- The state with the players of these tapes.
abbrev pub played : {K : Type 0} → (ℕ → List Entry) → State (Mixed K) → State (Mixed K)
played tapes s = replaced (played_by tapes) s

-- A component of process p that is the caller's own is no player, and its tape is this one.
abbrev pub HasTape : {K : Type 0} → (ℕ → List Entry) → ℕ → Mixed K → Type 0
HasTape tapes p (Other component) = Unit {0}
HasTape tapes p (Own own) = (own.place ≡ None) × (own.tape ≡ tapes p)

-- These are the tapes of the state, and no component of the caller's own is a player.
abbrev pub TapesOf : {K : Type 0} → (ℕ → List Entry) → State (Mixed K) → Type 0
TapesOf tapes s = OfEach (HasTape tapes) s

-- What leads to a state leads to it with its players, from where these stood then; and these are players all the way.
abbrev pub PlaysRuns : {K : Type 0} → Rules K → Type 0
PlaysRuns {K} rules =
    (tapes : ℕ → List Entry) (journal : Journal) (s s' : State (Mixed K)) → TapesOf tapes s' → Leads (mixed_rules rules) s journal s' → Leads (played_rules rules) (played tapes s) journal (played tapes s')
