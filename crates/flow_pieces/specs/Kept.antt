-- What a reader of pieces has in memory.
use Rattle.flow_limits.specs.declared.TheConstants.{TEXT_LIMIT}
use Rattle.std.specs.Prelude.{◌≡◌, ℕ, ◌+◌, ◌<◌, ◌≤◌, ◌^◌, List, length, drop}
use Rattle.flow_text.specs.Lines.{line_length}
use Rattle.flow_pieces.specs.declared.TheConstants.{KEPT_LIMIT}

-- Of these bytes so many are those of lines that were made; behind them no line feed stands before the place up to which was looked; and they are no more than
-- it may have.
pub record IsLooked (bytes : List ℕ) (taken looked : ℕ) : Type 0 where
  pub order : taken ≤ looked
  pub within : looked ≤ length bytes
  pub unbroken : looked ≤ taken + line_length (drop taken bytes)
  pub few : length bytes ≤ KEPT_LIMIT

-- So many bytes of the next line it let go, which it doesn't have any more. They are none, or more than the text of a packet may have; no line feed is among
-- them, and the byte behind them, which is there, is none either.
pub record IsCut (cut : List ℕ) (cut_count taken looked : ℕ) : Type 0 where
  pub count : cut_count ≡ length cut
  pub unbroken : line_length cut ≡ length cut
  pub long : 0 < cut_count → (TEXT_LIMIT < cut_count) × (taken < looked)
  pub most : cut_count ≤ 2 ^ 63 + KEPT_LIMIT
