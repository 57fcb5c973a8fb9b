-- What is done with the components at the edge of a network, between their turns. (This project's own.)
use Rattle.std.specs.Prelude.{◌≡◌, ℕ, false, List}
use Rattle.flow_pieces.specs.ReadPieces.{Pieces, is_sure, given, ended}
use Rattle.flow_pieces.specs.WritePieces.{all_bytes, all_taken}
use Rattle.flow_pieces.specs.Fed.{Fed, Reader, Writer, Other}

-- A reader of which more may come is given a piece, or it is told that no more will come.
pub data IsGiven (old new : Pieces) : Type 0 where
  Piece : (piece : List ℕ) → (old.ended ≡ false) → (new ≡ given old piece) → IsGiven old new
  End : (new ≡ ended old) → IsGiven old new

-- What may be done with a component between its turns: a reader is given something, and of a writer bytes are taken, which stay its bytes. No other is touched.
abbrev pub IsTended : {K : Type 0} → Fed K → Fed K → Type 0
IsTended (Reader old) (Reader new) = IsGiven old new
IsTended (Writer old) (Writer new) = all_bytes new ≡ all_bytes old
IsTended (Reader old) other = ⊥
IsTended (Writer old) other = ⊥
IsTended (Other component) other = ⊥

-- It is a reader, and wants a piece.
abbrev pub WantsPiece : {K : Type 0} → Fed K → Type 0
WantsPiece (Reader pieces) = is_sure pieces ≡ false
WantsPiece (Writer g) = ⊥
WantsPiece (Other component) = ⊥

-- It is a reader.
abbrev pub IsReader : {K : Type 0} → Fed K → Type 0
IsReader (Reader pieces) = Unit {0}
IsReader (Writer g) = ⊥
IsReader (Other component) = ⊥

-- It is a writer.
abbrev pub IsWriter : {K : Type 0} → Fed K → Type 0
IsWriter (Reader pieces) = ⊥
IsWriter (Writer g) = Unit {0}
IsWriter (Other component) = ⊥

-- Where it is a reader it is given this piece.
abbrev pub fed_given : {K : Type 0} → Fed K → List ℕ → Fed K
fed_given (Reader pieces) piece = Reader (given pieces piece)
fed_given (Writer g) piece = Writer g
fed_given (Other component) piece = Other component

-- Where it is a reader it knows that no piece will come any more.
abbrev pub fed_ended : {K : Type 0} → Fed K → Fed K
fed_ended (Reader pieces) = Reader (ended pieces)
fed_ended (Writer g) = Writer g
fed_ended (Other component) = Other component

-- Where it is a writer all that it has was taken.
abbrev pub fed_taken : {K : Type 0} → Fed K → Fed K
fed_taken (Reader pieces) = Reader pieces
fed_taken (Writer g) = Writer (all_taken g)
fed_taken (Other component) = Other component
