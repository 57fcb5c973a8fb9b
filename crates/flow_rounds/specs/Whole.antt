-- A network whose files come and go piece by piece is, component by component, the network of the whole files. (This project's own.)
use Rattle.std.specs.Prelude.{◌≡◌, ℕ, true, false, List, ◌++◌, drop, length}
use Rattle.std.specs.Str.Lines.{lines}
use Rattle.flow_packet.specs.Held.{Held}
use Rattle.flow_component.specs.declared.Answer.{Answer}
use Rattle.flow_component.specs.Laws.{Rules, Outcome}
use Rattle.flow_component.specs.Outcomes.{outcome_as}
use Rattle.flow_parts.specs.ReadLines.{ReadLinesNext, read_lines_rules}
use Rattle.flow_parts.specs.WriteLines.{WriteLinesNext, write_lines_rules}
use Rattle.flow_model.specs.Replaced.{Mimics}
use Rattle.flow_pieces.specs.ReadPieces.{Pieces, read_pieces_rules}
use Rattle.flow_pieces.specs.WritePieces.{all_bytes, write_pieces_rules}
use Rattle.flow_pieces.specs.Fed.{Fed, Reader, Writer, Other, fed_rules}

-- What the reader was given is the front of the file of process p, and all of it where no more will come; and it didn't guess.
pub record IsFront (files : ℕ → List ℕ) (p : ℕ) (pieces : Pieces) : Type 0 where
  pub rest : List ℕ
  pub whole : pieces.gone ++ (pieces.left ++ rest) ≡ files p
  pub ended : pieces.ended ≡ true → (pieces.gone ++ pieces.left) ≡ files p
  pub sure : pieces.guessed ≡ false

-- The reader of the whole file, where this one stands: the lines behind those that were made.
abbrev pub whole_reader : (ℕ → List ℕ) → ℕ → Pieces → List (List ℕ)
whole_reader files p pieces = lines (drop (length pieces.gone) (files p))

-- Whatever the files are of which it was given the front, a reader of pieces does what the reader of the whole file does.
abbrev pub ReadsAsWhole : Type 0
ReadsAsWhole = (files : ℕ → List ℕ) → Mimics read_pieces_rules read_lines_rules (IsFront files) (whole_reader files)

-- A writer of pieces does what the writer with all its bytes does.
abbrev pub WritesAsWhole : Type 0
WritesAsWhole = Mimics write_pieces_rules write_lines_rules (λ _ _. Unit {0}) (λ _ g. all_bytes g)

-- Among components with these rules there is a ReadLines with any lines that are left, and a WriteLines with any bytes.
pub record HaveFiles {K : Type 0} (rules : Rules K) (reading : List (List ℕ) → K) (writing : List ℕ → K) : Type 0 where
  pub reads : (left : List (List ℕ)) (held : Held) (answer : Answer) (o : Outcome (List (List ℕ))) → ReadLinesNext left held answer o → rules.next (reading left) held answer (outcome_as reading o)
  pub writes : (bytes : List ℕ) (held : Held) (answer : Answer) (o : Outcome (List ℕ)) → WriteLinesNext bytes held answer o → rules.next (writing bytes) held answer (outcome_as writing o)

-- The component of whole files that this one is.
abbrev pub whole_of : {K : Type 0} → (List (List ℕ) → K) → (List ℕ → K) → (ℕ → List ℕ) → ℕ → Fed K → K
whole_of reading writing files p (Reader pieces) = reading (whole_reader files p pieces)
whole_of reading writing files p (Writer g) = writing (all_bytes g)
whole_of reading writing files p (Other component) = component

-- Where it is a reader it was given the front of its file.
abbrev pub IsFedFrom : {K : Type 0} → (ℕ → List ℕ) → ℕ → Fed K → Type 0
IsFedFrom files p (Reader pieces) = IsFront files p pieces
IsFedFrom files p (Writer g) = Unit {0}
IsFedFrom files p (Other component) = Unit {0}

-- Whatever the files are of which the readers were given the fronts, each component does what that of whole files does.
abbrev pub FedIsWhole : {K : Type 0} → Rules K → Type 0
FedIsWhole {K} rules =
    (reading : List (List ℕ) → K) (writing : List ℕ → K) → HaveFiles rules reading writing → (files : ℕ → List ℕ) → Mimics (fed_rules rules) rules (IsFedFrom files) (whole_of reading writing files)
