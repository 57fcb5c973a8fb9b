-- The rule of the ready line.
use Rattle.std.specs.Prelude.{◌≡◌, ℕ, ◌+◌, ◌<◌, ◌≤◌, ◌==◌, if◌then◌else◌, List, [], ◌∷◌, ◌++◌, All, length, sum_by, count_by}
use Rattle.flow_limits.specs.declared.TheConstants.{WORKER_LIMIT}
use mathlib.Core.Option.{some}
use lib.ListN.{get_elem?}
use Rattle.flow_runner.specs.declared.line.Hand.{Hand}

abbrev pub hand : ℕ → ℕ → List (ℕ × ℕ) → List (ℕ × ℕ) → Hand
hand most parts put taken = record { most = most; parts = parts; put = put; taken = taken }

-- How often a number stands in a list.
abbrev pub times : ℕ → List ℕ → ℕ
times q xs = count_by (λ x. x == q) xs

-- These processes one after another, the first of which has place n: each with its place.
abbrev pub placed : ℕ → List ℕ → List (ℕ × ℕ)
placed n [] = []
placed n (q ∷ qs) = (n, q) ∷ placed (n + 1) qs

-- Those of pass j among them, each with its place, where `by` has for each the pass that it is of.
abbrev pub placed_by : ℕ → ℕ → List ℕ → List ℕ → List (ℕ × ℕ)
placed_by j n [] qs = []
placed_by j n (i ∷ by) [] = []
placed_by j n (i ∷ by) (q ∷ qs) = if j == i then (n, q) ∷ placed_by j (n + 1) by qs else placed_by j (n + 1) by qs

-- Each of these processes is of one of so many passes.
abbrev pub AreOf : ℕ → List ℕ → List ℕ → Type 0
AreOf count by qs = (length by ≡ length qs) × All (λ j. j < count) by

-- A pass with a part knows for how many processes the line is; one without has pushed and popped nothing.
abbrev pub Knows : ℕ → Hand → Type 0
Knows most v = (0 < v.parts → v.most ≡ most) × (v.parts ≡ 0 → (v.put ≡ []) × (v.taken ≡ []))

-- The rule of the line: of what was popped up to now, in order; of what it holds, first the oldest; and of the passes' views. What was popped and behind
-- that what the line holds is all that was pushed, in order. Each push is one pass's, and so is each pop, and each pass knows its own, with their places
-- in that order. All are numbers of processes, and the line holds no more of them than processes.
pub record Fair (gone items : List ℕ) (views : List Hand) : Type 0 where
  pub most : ℕ
  pub parts : sum_by (λ (v : Hand). v.parts) views ≡ WORKER_LIMIT
  pub each : (j : ℕ) (v : Hand) → get_elem? views j ≡ some v → Knows most v
  pub within : All (λ x. x < most) items
  pub room : length items ≤ most
  pub pushers : List ℕ
  pub poppers : List ℕ
  pub pushed : AreOf (length views) pushers (gone ++ items)
  pub popped : AreOf (length views) poppers gone
  pub put : (j : ℕ) (v : Hand) → get_elem? views j ≡ some v → v.put ≡ placed_by j 0 pushers (gone ++ items)
  pub taken : (j : ℕ) (v : Hand) → get_elem? views j ≡ some v → v.taken ≡ placed_by j 0 poppers gone

-- The same of what the line holds and of the views alone: something was popped up to now.
abbrev pub IsFair : List ℕ → List Hand → Type 0
IsFair items views = (gone : List ℕ) × Fair gone items views

-- At some moment these had been popped, the line held those, and this pass had this view.
abbrev pub Was : Hand → List ℕ → List ℕ → Type 0
Was v gone items = (views : List Hand) × (j : ℕ) × Fair gone items views × (get_elem? views j ≡ some v)

-- At some moment the line held these, and this pass had this view.
abbrev pub WasWith : Hand → List ℕ → Type 0
WasWith v items = (gone : List ℕ) × Was v gone items

-- What a push tells: the line wasn't full, and the number is behind all that were ever pushed.
abbrev pub Put : Hand → ℕ → Hand → Type 0
Put v x w = (gone : List ℕ) × (items : List ℕ) × (length items < v.most) × (w ≡ hand v.most v.parts (v.put ++ (length (gone ++ items), x) ∷ []) v.taken) × Was v gone items × Was w gone (items ++ x ∷ [])

-- What a pop tells: the number was the first of those that weren't popped yet.
abbrev pub Taken : Hand → ℕ → Hand → Type 0
Taken v x w = (gone : List ℕ) × (items : List ℕ) × (x < v.most) × (w ≡ hand v.most v.parts v.put (v.taken ++ (length gone, x) ∷ [])) × Was v gone (x ∷ items) × Was w (gone ++ x ∷ []) items
