-- Whole runs of a network with components of the caller's own, and those of its players.
use Rattle.std.specs.Prelude.{◌≡◌, ℕ, suc, List, [], ◌∷◌, None, slice_get}
use Rattle.std.specs.List.{All}
use Rattle.std.specs.Option.{option_map}
use Rattle.flow_component.specs.Laws.{Rules, AtMostOneOutcome}
use Rattle.flow_plan.specs.Network.{Network as Plan}
use Rattle.flow_own.specs.declared.tape.Entry.{Entry}
use Rattle.flow_own.specs.Mixed.{Mixed, Other, Own, mixed_rules}
use Rattle.flow_model.specs.States.{State}
use Rattle.flow_model.specs.Schedules.{Journal, Leads}
use Rattle.flow_model.specs.Plans.{start_of, StartsWell}
use Rattle.flow_journal.specs.Runs.{IsScheduled, IsRun}
use Rattle.flow_played.specs.Rules.{playing, played_rules}
use Rattle.flow_played.specs.Played.{TapesOf, played}

-- A component of the caller's own is no player, and nothing is on its tape yet.
abbrev pub IsFresh : {K : Type 0} → Mixed K → Type 0
IsFresh (Other component) = Unit {0}
IsFresh (Own own) = (own.place ≡ None) × (own.tape ≡ [])

-- The component of process p, or, where it is the caller's own, the player of its tape before the first entry.
abbrev pub player_for : {K : Type 0} → (ℕ → List Entry) → ℕ → Mixed K → Mixed K
player_for tapes p (Other component) = Other component
player_for tapes p (Own own) = playing (tapes p) own.shape own.used

-- Other components, each found by the number of its process and the component that it stands for.
abbrev pub each_replaced : {K L : Type 0} → (ℕ → K → L) → List K → List L
each_replaced other [] = []
each_replaced other (component ∷ components) = other 0 component ∷ each_replaced (λ p. other (suc p)) components

-- The components, with the players of these tapes in the place of those of the caller's own.
abbrev pub players : {K : Type 0} → (ℕ → List Entry) → List (Mixed K) → List (Mixed K)
players tapes components = each_replaced (player_for tapes) components

-- At each place stands the component that stood there, or its player before the first entry.
abbrev pub PlayersInOrder : Type 0 → Type 0
PlayersInOrder K = (tapes : ℕ → List Entry) (components : List (Mixed K)) (p : ℕ) → slice_get (players tapes components) p ≡ option_map (player_for tapes p) (slice_get components p)

-- The start of a plan with its players is that of the plan with the players before their first entries, where nothing was on a tape.
abbrev pub PlayersStandAtStart : Type 0 → Type 0
PlayersStandAtStart K = (tapes : ℕ → List Entry) (plan : Plan) (components : List (Mixed K)) → All IsFresh components → played tapes (start_of plan components) ≡ start_of plan (players tapes components)

-- Where components fit a plan their players do.
abbrev pub PlayersStartWell : {K : Type 0} → Rules K → Type 0
PlayersStartWell {K} rules =
    (tapes : ℕ → List Entry) (plan : Plan) (components : List (Mixed K)) → StartsWell (mixed_rules rules) plan components → StartsWell (played_rules rules) plan (players tapes components)

-- A schedule from the start of a plan, with nothing on the tapes, is one of the players of the tapes that it leads to.
abbrev pub PlaysSchedules : {K : Type 0} → Rules K → Type 0
PlaysSchedules {K} rules =
    (tapes : ℕ → List Entry) (plan : Plan) (components : List (Mixed K)) (journal : Journal) (last : State (Mixed K))
    → StartsWell (mixed_rules rules) plan components
    → All IsFresh components
    → TapesOf tapes last
    → IsScheduled (mixed_rules rules) plan components journal last
    → IsScheduled (played_rules rules) plan (players tapes components) journal (played tapes last)

-- So is a run by so many workers, be it a round robin or not.
abbrev pub PlaysWholeRuns : {K : Type 0} → Rules K → Type 0
PlaysWholeRuns {K} rules =
    (tapes : ℕ → List Entry) (workers : ℕ) (plan : Plan) (components : List (Mixed K)) (journal : Journal) (last : State (Mixed K))
    → StartsWell (mixed_rules rules) plan components
    → All IsFresh components
    → TapesOf tapes last
    → IsRun (mixed_rules rules) workers plan components journal last
    → IsRun (played_rules rules) workers plan (players tapes components) journal (played tapes last)

-- Where all other components come to one outcome, the journal of a schedule leads the players of its tapes to no other state than that with the players of
-- these tapes at the places to which they had come: so a replay without the parts ends as the run with them did.
abbrev pub PlayersEndAlike : {K : Type 0} → Rules K → Type 0
PlayersEndAlike {K} rules =
    AtMostOneOutcome rules
    → (tapes : ℕ → List Entry) (plan : Plan) (components : List (Mixed K)) (journal : Journal) (last last' : State (Mixed K))
    → All IsFresh components
    → TapesOf tapes last
    → Leads (mixed_rules rules) (start_of plan components) journal last
    → Leads (played_rules rules) (start_of plan (players tapes components)) journal last'
    → last' ≡ played tapes last
