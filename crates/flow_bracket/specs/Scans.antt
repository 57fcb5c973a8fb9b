-- What is known of a stream once it was read from its end back to a place.
use Rattle.std.specs.Prelude.{◌≡◌, ℕ, ◌+◌, ◌≤◌, List, [], ◌∷◌, length, Some, slice_get, Contains, reverse}
use Rattle.flow_packet.specs.declared.packet.Kind.{Kind}
use Rattle.flow_packet.specs.declared.packet.Kind.TheVariants.{Close}
use Rattle.flow_bracket.specs.Substreams.{AtMostAsMany, AsMany, Matches, BeginFrom, AreInOrder}

-- A Close without an Open from a place on: as many Close as Open stand from there up to it.
pub record IsFree (kinds : List Kind) (from close : ℕ) : Type 0 where
  pub order : from ≤ close
  pub closes : slice_get kinds close ≡ Some Close
  pub inside : (place : ℕ) → from ≤ place → place ≤ close → AtMostAsMany kinds from place
  pub even : AsMany kinds from close

-- These are all the Close without an Open from a place on, in order.
abbrev pub AreFree : List Kind → ℕ → List ℕ → Type 0
AreFree kinds from [] = (place : ℕ) → from ≤ place → place ≤ length kinds → AtMostAsMany kinds from place
AreFree kinds from (close ∷ closes) = IsFree kinds from close × AreFree kinds (close + 1) closes

-- Each pair is an Open with its Close.
abbrev pub AllMatch : List Kind → List (ℕ × ℕ) → Type 0
AllMatch kinds [] = Unit {0}
AllMatch kinds (pair ∷ pairs) = Matches kinds pair.0 pair.1 × AllMatch kinds pairs

-- The pairs are each Open from a place on with its Close, in order.
pub record ArePairs (kinds : List Kind) (from : ℕ) (pairs : List (ℕ × ℕ)) : Type 0 where
  pub sound : AllMatch kinds pairs
  pub complete : (opening closing : ℕ) → from ≤ opening → Matches kinds opening closing → Contains pairs (opening, closing)
  pub begin : BeginFrom from pairs
  pub in_order : AreInOrder pairs

-- The stream was read back to a place: these are its free Close and its pairs, each list from the end back.
pub record Scanned (kinds : List Kind) (from : ℕ) (closes : List ℕ) (pairs : List (ℕ × ℕ)) : Type 0 where
  pub free : AreFree kinds from (reverse closes)
  pub found : ArePairs kinds from (reverse pairs)
