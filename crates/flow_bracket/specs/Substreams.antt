-- The substreams of a stream: which Close belongs to which Open.
use Rattle.std.specs.Prelude.{◌≡◌, ℕ, ◌+◌, ◌<◌, ◌≤◌, ◌↔◌, Bool, true, false, List, [], ◌∷◌, take, length, Some, slice_get, count_by, Contains}
use Rattle.flow_packet.specs.declared.packet.Kind.{Kind}
use Rattle.flow_packet.specs.declared.packet.Kind.TheVariants.{Normal, Open, Close}

-- The kind is an opening bracket.
abbrev pub is_open : Kind → Bool
is_open Normal = false
is_open Open = true
is_open Close = false

-- The kind is a closing bracket.
abbrev pub is_close : Kind → Bool
is_close Normal = false
is_close Open = false
is_close Close = true

-- How many Open stand before the place.
abbrev pub opens_before : List Kind → ℕ → ℕ
opens_before kinds place = count_by is_open (take place kinds)

-- How many Close stand before the place.
abbrev pub closes_before : List Kind → ℕ → ℕ
closes_before kinds place = count_by is_close (take place kinds)

-- From one place up to another stand at most as many Close as Open.
abbrev pub AtMostAsMany : List Kind → ℕ → ℕ → Type 0
AtMostAsMany kinds from to = closes_before kinds to + opens_before kinds from ≤ opens_before kinds to + closes_before kinds from

-- From one place up to another stand as many Close as Open.
abbrev pub AsMany : List Kind → ℕ → ℕ → Type 0
AsMany kinds from to = closes_before kinds to + opens_before kinds from ≡ opens_before kinds to + closes_before kinds from

-- An Open and its Close: between them stand as many Close as Open, and up to no place between them more Close than Open.
pub record Matches (kinds : List Kind) (opening closing : ℕ) : Type 0 where
  pub order : opening < closing
  pub opens : slice_get kinds opening ≡ Some Open
  pub closes : slice_get kinds closing ≡ Some Close
  pub inside : (place : ℕ) → opening < place → place ≤ closing → AtMostAsMany kinds (opening + 1) place
  pub even : AsMany kinds (opening + 1) closing

-- Some prefix has more Close than Open.
abbrev pub Overcloses : List Kind → Type 0
Overcloses kinds = (place : ℕ) × (place ≤ length kinds) × (opens_before kinds place < closes_before kinds place)

-- No prefix has more Close than Open.
abbrev pub IsNested : List Kind → Type 0
IsNested kinds = (place : ℕ) → place ≤ length kinds → closes_before kinds place ≤ opens_before kinds place

-- None of the pairs begins before the place.
abbrev pub BeginFrom : ℕ → List (ℕ × ℕ) → Type 0
BeginFrom place [] = Unit {0}
BeginFrom place (pair ∷ pairs) = (place ≤ pair.0) × BeginFrom place pairs

-- Each pair begins behind the one before it.
abbrev pub AreInOrder : List (ℕ × ℕ) → Type 0
AreInOrder [] = Unit {0}
AreInOrder (pair ∷ pairs) = BeginFrom (pair.0 + 1) pairs × AreInOrder pairs

-- The pairs are each Open with its Close, in the order of the Opens.
pub record AreSubstreams (kinds : List Kind) (pairs : List (ℕ × ℕ)) : Type 0 where
  pub matching : (opening closing : ℕ) → Contains pairs (opening, closing) ↔ Matches kinds opening closing
  pub in_order : AreInOrder pairs
