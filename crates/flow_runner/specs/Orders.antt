-- Laws of the ready line's rule: what its passes know of each other.
use Rattle.std.specs.Prelude.{◌≡◌, ◌≢◌, ℕ, ◌<◌, List, [], ◌∷◌, ◌++◌, All, get_or, length}
use Rattle.flow_limits.specs.declared.TheConstants.{WORKER_LIMIT}
use mathlib.Core.Option.{some}
use lib.ListN.{get_elem?}
use Rattle.flow_runner.specs.declared.line.Hand.{Hand}
use Rattle.flow_runner.specs.declared.line.LinePass.{LinePass}
use Rattle.flow_runner.specs.Fair.{placed, Fair, Was}
use Rattle.flow_runner.specs.Lines.{puts_of, takes_of, LeaveInOrder}

-- Each process stands in the list at its place.
abbrev pub StandIn : List ℕ → List (ℕ × ℕ) → Type 0
StandIn qs places = All (λ (s : ℕ × ℕ). get_elem? qs s.0 ≡ some s.1) places

-- No place is in both.
abbrev pub AreApart : List (ℕ × ℕ) → List (ℕ × ℕ) → Type 0
AreApart xs ys = All (λ (s : ℕ × ℕ). All (λ (t : ℕ × ℕ). s.0 ≢ t.0) ys) xs

-- Where a place is in both, it is that of the same process.
abbrev pub PopsOf : List (ℕ × ℕ) → List (ℕ × ℕ) → Type 0
PopsOf takes puts = All (λ (s : ℕ × ℕ). All (λ (t : ℕ × ℕ). s.0 ≡ t.0 → s.1 ≡ t.1) puts) takes

-- Of any two passes, at any moment: no push is both's, and no pop.
abbrev pub PlacesAreOnes : Type 0
PlacesAreOnes = (gone items : List ℕ) (views : List Hand) (i j : ℕ) (u v : Hand) → Fair gone items views → get_elem? views i ≡ some u → get_elem? views j ≡ some v → i ≢ j → AreApart u.put v.put × AreApart u.taken v.taken

-- What is popped as the k-th, by whichever pass, was pushed as the k-th, by whichever pass.
abbrev pub PopsArePushes : Type 0
PopsArePushes = (gone items : List ℕ) (views : List Hand) (i j : ℕ) (u v : Hand) → Fair gone items views → get_elem? views i ≡ some u → get_elem? views j ≡ some v → PopsOf u.taken v.put

-- Each place is above those before it.
abbrev pub Rise : List (ℕ × ℕ) → Type 0
Rise [] = Unit {0}
Rise (s ∷ places) = All (λ (t : ℕ × ℕ). s.0 < t.0) places × Rise places

-- What a pass pushed stands at its places of all that was pushed, first what was popped up to now and then what the line holds; and what it popped at its
-- places of the former. Its places rise.
abbrev pub EachIsInOrder : Type 0
EachIsInOrder = (v : Hand) (gone items : List ℕ) → Was v gone items → StandIn (gone ++ items) v.put × Rise v.put × StandIn gone v.taken × Rise v.taken

-- The only pass knows all, in order.
abbrev pub OneKnowsAll : Type 0
OneKnowsAll = (v : Hand) (gone items : List ℕ) → Was v gone items → v.parts ≡ WORKER_LIMIT → (v.put ≡ placed 0 (gone ++ items)) × (v.taken ≡ placed 0 gone)

-- Whatever one of several passes has pushed and popped, the others may by now have emptied the line, or filled it.
abbrev pub SeveralAreNotTold : Type 0
SeveralAreNotTold =
    (v : Hand) (gone items : List ℕ)
    → Was v gone items
    → 0 < v.parts
    → v.parts < WORKER_LIMIT
    → ((others : List ℕ) × Was v others []) × ((others : List ℕ) × (full : List ℕ) × (length full ≡ v.most) × Was v others full)

-- Of all passes of a line that was closed: what one of them popped as the k-th, one of them had pushed as the k-th; and no push is that of two of them, and
-- no pop.
abbrev pub ClosesInOrder : Type 0
ClosesInOrder =
    (ps : List LinePass) (items : List ℕ)
    → LeaveInOrder ps items
    → (i j : ℕ) (d e : LinePass)
    → i < length ps
    → j < length ps
    → PopsOf (takes_of (get_or ps i d)) (puts_of (get_or ps j e)) × (i ≢ j → AreApart (puts_of (get_or ps i d)) (puts_of (get_or ps j e)) × AreApart (takes_of (get_or ps i d)) (takes_of (get_or ps j e)))
