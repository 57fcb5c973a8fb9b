-- The journal of a net.
use Rattle.std.specs.Prelude.{◌≡◌, ℕ, ◌<◌, ◌==◌, if◌then◌else◌, Bool, true, false, List, [], ◌∷◌, ◌++◌, map, length, slice_index}
use Rattle.std.specs.List.{flat_map, list_any}
use Rattle.flow_machine.specs.Values.{NetValue}
use Rattle.flow_machine.specs.Logs.{Logged, IsLogOf}

-- These are the processes of a net's turns in the order of their stamps.
abbrev pub NamesTurns : {K : Type 0} → NetValue K → List ℕ → Type 0
NamesTurns net turns = (log : List Logged) → IsLogOf log net → turns ≡ map (λ turn. turn.process) log

-- These are the numbers that the level turns of a net saw, in the order of their stamps.
abbrev pub NamesSeen : {K : Type 0} → NetValue K → List ℕ → Type 0
NamesSeen net seen = (log : List Logged) → IsLogOf log net → seen ≡ flat_map (λ turn. turn.seen) log

-- The place stands among the stamps.
abbrev pub is_stamped : List ℕ → ℕ → Bool
is_stamped stamps place = list_any (λ stamp. stamp == place) stamps

-- The places that the stamps name hold this process, and all others what they held.
pub record Marks (stamps : List ℕ) (process : ℕ) (old new : List ℕ) : Type 0 where
  pub here : (place : ℕ) → place < length old → is_stamped stamps place ≡ true → slice_index new place ≡ process
  pub others : (place : ℕ) → is_stamped stamps place ≡ false → slice_index new place ≡ slice_index old place

-- The numbers at the front that stand under this stamp, and the list after them.
abbrev pub numbers_under : ℕ → List (ℕ × ℕ) → List ℕ
numbers_under stamp [] = []
numbers_under stamp (level ∷ levels) = if level.0 == stamp then level.1 ∷ numbers_under stamp levels else []

-- The numbers that are left behind those.
abbrev pub after_numbers : ℕ → List (ℕ × ℕ) → List (ℕ × ℕ)
after_numbers stamp [] = []
after_numbers stamp (level ∷ levels) = if level.0 == stamp then after_numbers stamp levels else level ∷ levels

-- The numbers at the front that stand under this stamp were appended, and these levels are left.
pub record TakesNumbers (levels : List (ℕ × ℕ)) (stamp : ℕ) (old new : List ℕ) (left : List (ℕ × ℕ)) : Type 0 where
  pub taken : new ≡ old ++ numbers_under stamp levels
  pub left_is : left ≡ after_numbers stamp levels
