-- A piece that a Split cuts, in the words of what comes next of a text.
use Rattle.std.specs.Prelude.{◌≡◌, ℕ, ◌≤◌, List, length, Option, Some, None, IfSome}
use Rattle.flow_map.specs.Mapping.{Next, Last, More}
use Rattle.flow_find.specs.Pieces.{piece, text_product, end_place}
use Rattle.flow_find.specs.declared.split.Cut.{Cut}

-- The piece is sent: as the last, or before what comes from a place on.
abbrev pub sends_piece : List ℕ → ℕ × ℕ → Option ℕ → Next
sends_piece text s None = Last (text_product (piece text s))
sends_piece text s (Some place) = More (text_product (piece text s)) place

-- The piece lies within the text, and so does what comes behind it; and it comes next.
pub record IsCut (text : List ℕ) (cut : Cut) (next : Next) : Type 0 where
  pub ordered : cut.start ≤ cut.end
  pub inside : cut.end ≤ length text
  pub goes_on : IfSome cut.next (λ place. place ≤ end_place text)
  pub is_next : next ≡ sends_piece text (cut.start, cut.end) cut.next
