-- The start of a plan with players.
use Rattle.std.proofs.Common.{◌≡◌, ℕ, zero, suc, ◌+◌, List, [], ◌∷◌, length, Some, refl, ◌∙◌, ap, subst, arith, slice_get, option_map}
use Rattle.std.specs.List.{All}
use Rattle.flow_component.specs.Laws.{Rules}
use Rattle.flow_plan.specs.Network.{Network as Plan}
use Rattle.flow_plan.specs.declared.plan.Process.{Process as PlanProcess}
use Rattle.flow_own.specs.declared.tape.Entry.{Entry}
use Rattle.flow_own.specs.Mixed.{Mixed, Other, Own, mixed_rules}
use Rattle.flow_model.specs.States.{Process, State}
use Rattle.flow_model.specs.Plans.{process_at_start, processes_at_start, start_of, FitsProcess}
use Rattle.flow_model.specs.Replaced.{with_component, all_replaced, replaced}
use Rattle.flow_model.proofs.Replacing.{replaced-from}
use Rattle.flow_played.specs.Rules.{played_rules}
use Rattle.flow_played.specs.Played.{played_by}
use Rattle.flow_played.specs.Runs.{IsFresh, player_for, each_replaced, PlayersInOrder, PlayersStandAtStart, PlayersStartWell}

-- the processes of a start, with other components
start-replaced : {K L : Type 0} (other : ℕ → K → L) (plan : Plan) (p : ℕ) (xs : List PlanProcess) (components : List K)
    → all_replaced other (processes_at_start plan p xs components) ≡ processes_at_start plan p xs (each_replaced other components)
start-replaced other plan p [] components = refl
start-replaced other plan p (x ∷ xs) [] = refl
start-replaced {L = L} other plan p (x ∷ xs) (component ∷ components) =
    ap (λ (ys : List (Process L)). process_at_start plan p x (other 0 component) ∷ ys) (start-replaced (λ q. other (suc q)) plan (p + 1) xs components)

-- the start with other components is that of the plan with these
start-with : {K L : Type 0} (other : ℕ → K → L) (plan : Plan) (components : List K) → replaced other (start_of plan components) ≡ start_of plan (each_replaced other components)
start-with {K} {L} other plan components =
    ap {B = State L} (λ (ps : List (Process L)). record { kept = record { processes = ps; channels = (start_of plan components).kept.channels }; past = (start_of plan components).past })
    (start-replaced other plan 0 plan.processes components)

replaced-many : {K L : Type 0} (other : ℕ → K → L) (components : List K) → length (each_replaced other components) ≡ length components
replaced-many other [] = refl
replaced-many other (component ∷ components) = ap suc (replaced-many (λ p. other (suc p)) components)

-- the other component at a place
each-at : {K L : Type 0} (other : ℕ → K → L) (components : List K) (p : ℕ) → slice_get (each_replaced other components) p ≡ option_map (other p) (slice_get components p)
each-at other [] p = refl
each-at other (component ∷ components) zero = refl
each-at other (component ∷ components) (suc p) = each-at (λ q. other (suc q)) components p

-- At each place is the player of the component there.
pub players-in-order : {K : Type 0} → PlayersInOrder K
players-in-order tapes components p = each-at (player_for tapes) components p

-- two ways to find other components that agree on all of these
agree : {K L : Type 0} (P : K → Type 0) (other other' : ℕ → K → L) → ((p : ℕ) (component : K) → P component → other p component ≡ other' p component) → (components : List K) → All P components
    → each_replaced other components ≡ each_replaced other' components
agree P other other' same [] all = refl
agree {K} {L} P other other' same (component ∷ components) all =
    let first = same 0 component (all 0 component (omega arith)) in
    let rest = agree P (λ p. other (suc p)) (λ p. other' (suc p)) (λ p. same (suc p)) components (λ k d below. all (suc k) d (omega (arith, below))) in
    ap (λ (c : L). c ∷ each_replaced (λ p. other (suc p)) components) first ∙ ap (λ (cs : List L). other' 0 component ∷ cs) rest

-- the player of a tape on which nothing was yet stands before the first entry
first-place : {K : Type 0} (tapes : ℕ → List Entry) (p : ℕ) (component : Mixed K) → IsFresh component → played_by tapes p component ≡ player_for tapes p component
first-place tapes p (Other component) fresh = refl
first-place {K} tapes p (Own own) fresh = ap {B = Mixed K} (λ (tape : List Entry). played_by tapes p (Own (record own { tape = tape }))) fresh.1

-- At the start of a network each player stands before the first entry of its tape.
pub players-stand : {K : Type 0} → PlayersStandAtStart K
players-stand {K} tapes plan components fresh =
    start-with (played_by tapes) plan components ∙ ap (start_of plan) (agree IsFresh (played_by tapes) (player_for tapes) (first-place tapes) components fresh)

module _ {K : Type 0} (rules : Rules K) where
  -- a player fits where the component fitted that it stands for
  player-fits : (tapes : ℕ → List Entry) (p : ℕ) (component : Mixed K) (x : Process (Mixed K)) → FitsProcess (mixed_rules rules) component x
      → FitsProcess (played_rules rules) (player_for tapes p component) (with_component x (player_for tapes p component))
  player-fits tapes p (Other component) x fits = record { inputs = fits.inputs; outputs = fits.outputs; used = fits.used; can_start = λ held none. (tt, fits.can_start held none) }
  player-fits tapes p (Own own) x fits =
      record { inputs = fits.inputs; outputs = fits.outputs; used = fits.used; can_start = λ held none. (record { unmanned = refl; placed = refl }, tt) }

  pub players-start-well : PlayersStartWell rules
  players-start-well tapes plan components well = record {
    wired = well.wired;
    one_each = replaced-many (player_for tapes) components ∙ well.one_each;
    fit = λ p y there.
        (let at : slice_get (all_replaced (player_for tapes) (start_of plan components).kept.processes) p ≡ Some y =
        ap (λ (ps : List (Process (Mixed K))). slice_get ps p) (start-replaced (player_for tapes) plan 0 plan.processes components) ∙ there in
        let from = replaced-from (player_for tapes) (start_of plan components).kept.processes p y at in
        subst (λ (z : Process (Mixed K)). FitsProcess (played_rules rules) z.component z) from.2 (player-fits tapes p from.0.component from.0 (well.fit p from.0 from.1)));
  }
