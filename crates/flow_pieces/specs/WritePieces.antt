-- The component that gathers what it gets, and whose bytes are taken from it now and then. Its state is all bytes, and which of them were taken.
use Rattle.std.specs.Prelude.{◌≡◌, ℕ, Bool, List, [], ◌++◌, length, nat_le}
use Rattle.flow_packet.specs.Held.{Held}
use Rattle.flow_component.specs.declared.Answer.{Answer}
use Rattle.flow_component.specs.Laws.{Rules, Outcome}
use Rattle.flow_component.specs.Ports.{one_to_none, uses_none}
use Rattle.flow_component.specs.Outcomes.{IsAtHand, outcome_as}
use Rattle.flow_parts.specs.WriteLines.{writes}
use Rattle.flow_pieces.specs.declared.TheConstants.{PIECE}

-- The bytes that were taken from it, and those that it has.
pub record Gathered : Type 0 where
  pub gone : List ℕ
  pub has : List ℕ

-- The same with these bytes gone.
abbrev pub with_gone : List ℕ → List ℕ → Gathered
with_gone gone has = record { gone = gone; has = has }

-- It has a piece, and wants it to be taken.
abbrev pub is_full : Gathered → Bool
is_full g = nat_le PIECE (length g.has)

-- All bytes.
abbrev pub all_bytes : Gathered → List ℕ
all_bytes g = g.gone ++ g.has

-- All that it has was taken.
abbrev pub all_taken : Gathered → Gathered
all_taken g = with_gone (all_bytes g) []

-- It comes to what a WriteLines with the bytes that it has comes to; what is gone stays.
abbrev pub WritePiecesNext : Gathered → Held → Answer → Outcome Gathered → Type 0
WritePiecesNext g held answer outcome = outcome ≡ outcome_as (with_gone g.gone) (writes g.has held answer)

-- All that a network knows of it.
abbrev pub write_pieces_rules : Rules Gathered
write_pieces_rules = record { shape = λ _. one_to_none; uses = λ _. uses_none; ready = λ _. IsAtHand; next = WritePiecesNext }
