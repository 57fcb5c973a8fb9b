-- Components of a network whose files are given and taken piece by piece: a reader, a writer, or another.
use Rattle.std.specs.Prelude.{◌≡◌, ℕ, Bool, true}
use Rattle.flow_packet.specs.Held.{Held}
use Rattle.flow_component.specs.declared.Answer.{Answer}
use Rattle.flow_component.specs.declared.Shape.{Shape}
use Rattle.flow_component.specs.Laws.{Rules, Outcome}
use Rattle.flow_component.specs.Outcomes.{IsAtHand, outcome_as}
use Rattle.flow_component.specs.Ports.{none_to_one, one_to_none, uses_first, uses_none}
use Rattle.flow_pieces.specs.ReadPieces.{Pieces, ReadPiecesNext, ReadPiecesReady}
use Rattle.flow_pieces.specs.WritePieces.{Gathered, WritePiecesNext}

pub data Fed (K : Type 0) : Type 0 where
  Reader : (pieces : Pieces) → Fed K
  Writer : (gathered : Gathered) → Fed K
  Other : (component : K) → Fed K

-- Each comes to what it would come to by itself.
abbrev pub FedNext : {K : Type 0} → Rules K → Fed K → Held → Answer → Outcome (Fed K) → Type 0
FedNext rules (Reader pieces) held answer outcome = (o : Outcome Pieces) × ReadPiecesNext pieces held answer o × (outcome ≡ outcome_as Reader o)
FedNext rules (Writer g) held answer outcome = (o : Outcome Gathered) × WritePiecesNext g held answer o × (outcome ≡ outcome_as Writer o)
FedNext {K} rules (Other component) held answer outcome = (o : Outcome K) × rules.next component held answer o × (outcome ≡ outcome_as Other o)

-- How many inputs and outputs it has.
abbrev pub fed_shape : {K : Type 0} → Rules K → Fed K → Shape
fed_shape rules (Reader pieces) = none_to_one
fed_shape rules (Writer g) = one_to_none
fed_shape rules (Other component) = rules.shape component

-- Which outputs it uses.
abbrev pub fed_uses : {K : Type 0} → Rules K → Fed K → ℕ → Bool
fed_uses rules (Reader pieces) = uses_first
fed_uses rules (Writer g) = uses_none
fed_uses rules (Other component) = rules.uses component

-- It is ready for the answer, with these hands.
abbrev pub FedReady : {K : Type 0} → Rules K → Fed K → Held → Answer → Type 0
FedReady rules (Reader pieces) held answer = ReadPiecesReady pieces held answer
FedReady rules (Writer g) held answer = IsAtHand held answer
FedReady rules (Other component) held answer = rules.ready component held answer

-- Its state.
abbrev pub fed_state : {K : Type 0} → (K → K) → Fed K → Fed K
fed_state state_of (Reader pieces) = Reader pieces
fed_state state_of (Writer g) = Writer g
fed_state state_of (Other component) = Other (state_of component)

-- It was told its end.
abbrev pub fed_told : {K : Type 0} → (K → Bool) → Fed K → Bool
fed_told told_end (Reader pieces) = true
fed_told told_end (Writer g) = true
fed_told told_end (Other component) = told_end component

-- All that a network knows of it.
abbrev pub fed_rules : {K : Type 0} → Rules K → Rules (Fed K)
fed_rules rules = record { shape = fed_shape rules; uses = fed_uses rules; ready = FedReady rules; next = FedNext rules }
