-- The workers of a run that is over, and the turns that each of them made.
use Rattle.std.specs.Prelude.{◌≡◌, ℕ, ◌+◌, List, [], ◌∷◌, map, length}
use Rattle.flow_floor.specs.declared.floor.Worker.{Worker}
use Rattle.flow_floor.specs.Crew.{made_by}
use Rattle.flow_floor.specs.Made.{merge}
use Rattle.flow_runner.specs.declared.worked.Crew.{Crew}

-- The turns that each of these workers made, each with its stamp.
abbrev pub made_each : {K : Type 0} → List (Worker K) → List (List (ℕ × ℕ))
made_each {K} workers = map (λ (worker : Worker K). worker.seat.me.0.made) workers

-- The turns of all these lists, in the order of their stamps.
abbrev pub merged : List (List (ℕ × ℕ)) → List (ℕ × ℕ)
merged [] = []
merged (turns ∷ []) = turns
merged (turns ∷ others ∷ lists) = merge turns (merged (others ∷ lists))

-- What each of some workers made is together, in the order of the stamps, what a floor says that they all made.
abbrev pub MergeToAll : Type 0 → Type 0
MergeToAll K = (workers : List (Worker K)) → merged (made_each workers) ≡ made_by workers

-- The turns that each worker of a crew made, in the order of the workers.
abbrev pub turns_each : Crew → List (List (ℕ × ℕ))
turns_each crew = crew.turns.each

-- All turns of a crew, in the order of their stamps.
abbrev pub turns_of_crew : Crew → List (ℕ × ℕ)
turns_of_crew crew = merged (turns_each crew)

-- The crew are so many workers: so many were counted, and of so many there are the turns.
abbrev pub HasWorkers : ℕ → Crew → Type 0
HasWorkers n crew = (crew.count ≡ n) × (length (turns_each crew) ≡ n)

-- The turns of these processes one after another, of which the first has stamp n: each with its stamp.
abbrev pub stamped : ℕ → List ℕ → List (ℕ × ℕ)
stamped n [] = []
stamped n (process ∷ processes) = (n, process) ∷ stamped (n + 1) processes
