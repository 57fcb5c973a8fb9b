-- A reader of pieces mimics the reader of the whole file.
use Rattle.flow_limits.specs.declared.TheConstants.{TEXT_LIMIT}
use Rattle.std.proofs.Common.{◌≡◌, ℕ, suc, Bool, true, false, ◌||◌, List, [], ◌∷◌, ◌++◌, length, take, drop, refl, sym, ◌∙◌, ap, subst, arith, nat_lt, if◌then◌else◌, append_assoc}
use Rattle.std.proofs.Math.Seq.{drop-append_seam}
use Rattle.std.proofs.lemmas.Bool.Decides.{nat_tests}
use Rattle.std.proofs.lemmas.List.{take-append-drop}
use Rattle.std.specs.Str.Lines.{lines}
use Rattle.flow_text.specs.Lines.{line_length}
use Rattle.flow_packet.specs.declared.packet.Kind.TheVariants.{Normal}
use Rattle.flow_packet.specs.Held.{Held, next_id, with_made, without_packet}
use Rattle.flow_component.specs.declared.Answer.{Answer}
use Rattle.flow_component.specs.declared.Answer.TheVariants as answers
use Rattle.flow_component.specs.declared.Wish.TheVariants.{Deactivate}
use Rattle.flow_component.specs.declared.Fail.TheVariants.{TextLimit}
use Rattle.flow_component.specs.Laws.{Outcome, Wishes, Fails, component_after}
use Rattle.flow_component.specs.Outcomes.{outcome_as}
use Rattle.flow_component.specs.Ports.{receive_first, send_first}
use Rattle.flow_packet.specs.Hands.{kind_at, text_at}
use Rattle.flow_parts.specs.ReadLines.{reads, read_lines_rules}
use Rattle.flow_parts.specs.WriteLines.{rendered, writes, write_lines_rules}
use Rattle.flow_model.specs.Replaced.{Mimics}
use Rattle.flow_pieces.specs.ReadPieces.{Pieces, is_sure, after_line, reads_first, reads_piece, read_pieces_rules}
use Rattle.flow_pieces.specs.WritePieces.{Gathered, with_gone, all_bytes, write_pieces_rules}
use Rattle.flow_rounds.specs.Whole.{IsFront, whole_reader}
use Rattle.flow_pieces.proofs.Lines.{at-most}
use Rattle.flow_rounds.proofs.Fronts.{same-rest, IsKnown, Fed, Last, known-line, known-end}

-- what was given, once k bytes more are gone
moved : (gone left rest : List ℕ) (k : ℕ) → (gone ++ take k left) ++ (drop k left ++ rest) ≡ gone ++ (left ++ rest)
moved gone left rest k =
    append_assoc gone (take k left) (drop k left ++ rest)
    ∙ ap (λ (l : List ℕ). gone ++ l) (sym (append_assoc (take k left) (drop k left) rest) ∙ ap (λ (l : List ℕ). l ++ rest) (take-append-drop k left))

moved-all : (gone left : List ℕ) (k : ℕ) → (gone ++ take k left) ++ drop k left ≡ gone ++ left
moved-all gone left k = append_assoc gone (take k left) (drop k left) ∙ ap (λ (l : List ℕ). gone ++ l) (take-append-drop k left)

module _ (files : ℕ → List ℕ) (p : ℕ) (held : Held) (pieces : Pieces) where
  abbrev k : ℕ
  k = suc (line_length pieces.left)

  -- what holds after a line held before it
  abbrev back-line : IsFront files p (after_line pieces) → IsFront files p pieces
  back-line h = record {
    rest = h.rest;
    whole = sym (moved pieces.gone pieces.left h.rest k) ∙ h.whole;
    ended = λ e. sym (moved-all pieces.gone pieces.left k) ∙ h.ended e;
    sure = h.sure;
  }

  back-first : (ls : List (List ℕ)) → IsFront files p (component_after (reads_first held pieces ls)) → IsFront files p pieces
  back-first [] h = h
  back-first (line ∷ rest) h = by (nat_lt TEXT_LIMIT (length line)) h
    where
      by : (b : Bool) → IsFront files p (component_after (if b then Fails pieces held (TextLimit (length line)) else Wishes (after_line pieces) (with_made held Normal line) (send_first (next_id held)))) → IsFront files p pieces
      by true a = a
      by false a = back-line a

  never : {A : Type 0} → true ≡ false → A
  never e = cc

  back : (sure : Bool) → IsFront files p (component_after (reads_piece held pieces sure)) → IsFront files p pieces
  back true h = back-first (lines pieces.left) h
  back false h = never h.sure

  -- the lines of the whole file that are behind what is gone
  behind : (x : Pieces) (h : IsFront files p x) → whole_reader files p x ≡ lines (x.left ++ h.rest)
  behind x h = ap (λ (file : List ℕ). lines (drop (length x.gone) file)) (sym h.whole) ∙ ap lines (drop-append_seam x.gone (x.left ++ h.rest))

  -- nothing follows what has ended
  no-rest : (h : IsFront files p pieces) → pieces.ended ≡ true → h.rest ≡ []
  no-rest h e = same-rest (pieces.gone ++ pieces.left) h.rest (append_assoc pieces.gone pieces.left h.rest ∙ h.whole ∙ sym (h.ended e))

  known : (h : IsFront files p pieces) → is_sure pieces ≡ true → IsKnown pieces.left h.rest
  known h s = by (nat_lt (line_length pieces.left) (length pieces.left)) pieces.ended refl refl s
    where
      by : (fed ended : Bool) → nat_lt (line_length pieces.left) (length pieces.left) ≡ fed → pieces.ended ≡ ended → (ended || fed) ≡ true → IsKnown pieces.left h.rest
      by true ended f e s = Fed (grind (arith, nat_tests))
      by false true f e s = (let m = at-most pieces.left in Last (grind (arith, nat_tests)) (no-rest h e))
      by false false f e s = never (sym s)

  -- the reader of the whole file comes to the same
  same-first : (ls : List (List ℕ)) → is_sure pieces ≡ true → lines pieces.left ≡ ls → IsFront files p (component_after (reads_first held pieces ls))
      → outcome_as (whole_reader files p) (reads_first held pieces ls) ≡ reads held (whole_reader files p pieces)
  same-first [] s e h =
      let none : whole_reader files p pieces ≡ [] = behind pieces h ∙ known-end pieces.left h.rest (known h s) e in
      ap (λ (ls : List (List ℕ)). Wishes ls held Deactivate) none ∙ ap (reads held) (sym none)
  same-first (line ∷ more) s e h = by (nat_lt TEXT_LIMIT (length line)) refl h
    where
      by : (b : Bool) → nat_lt TEXT_LIMIT (length line) ≡ b
          → IsFront files p (component_after (if b then Fails pieces held (TextLimit (length line)) else Wishes (after_line pieces) (with_made held Normal line) (send_first (next_id held))))
          → outcome_as (whole_reader files p) (if b then Fails pieces held (TextLimit (length line)) else Wishes (after_line pieces) (with_made held Normal line) (send_first (next_id held))) ≡ reads held (whole_reader files p pieces)
      by true l a =
          let w : whole_reader files p pieces ≡ line ∷ lines (drop k pieces.left ++ a.rest) = behind pieces a ∙ known-line pieces.left a.rest line more (known a s) e in
          rw (w, l) refl
      by false l a =
          let b = back-line a in
          let w : whole_reader files p pieces ≡ line ∷ lines (drop k pieces.left ++ b.rest) = behind pieces b ∙ known-line pieces.left b.rest line more (known b s) e in
          let after : whole_reader files p (after_line pieces) ≡ lines (drop k pieces.left ++ b.rest) = behind (after_line pieces) a in
          rw (w, l, after) refl

  same : (sure : Bool) → is_sure pieces ≡ sure → IsFront files p (component_after (reads_piece held pieces sure))
      → outcome_as (whole_reader files p) (reads_piece held pieces sure) ≡ reads held (whole_reader files p pieces)
  same true s h = same-first (lines pieces.left) s refl h
  same false s h = never h.sure

-- It does what the reader of the whole file does.
pub reads-as-whole : (files : ℕ → List ℕ) → Mimics read_pieces_rules read_lines_rules (IsFront files) (whole_reader files)
reads-as-whole files = record {
  before = λ p pieces held answer outcome next h. back files p held pieces (is_sure pieces) (subst (λ (o : Outcome Pieces). IsFront files p (component_after o)) next h);
  same = λ p pieces held answer outcome next h.
      ap (outcome_as (whole_reader files p)) next ∙ same files p held pieces (is_sure pieces) refl (subst (λ (o : Outcome Pieces). IsFront files p (component_after o)) next h);
}

same-write : (g : Gathered) (held : Held) (answer : Answer) → outcome_as all_bytes (outcome_as (with_gone g.gone) (writes g.has held answer)) ≡ writes (all_bytes g) held answer
same-write g held answers.Start = refl
same-write g held (answers.Got id) =
    ap (λ (l : List ℕ). Wishes l (without_packet held id) receive_first) (sym (append_assoc g.gone g.has (rendered (kind_at held.packets id) (text_at held.packets id))))
same-write g held answers.End = refl
same-write g held answers.Sent = refl
same-write g held (answers.Level n) = refl

-- It does what the writer with all bytes does.
pub writes-as-whole : Mimics write_pieces_rules write_lines_rules (λ _ _. Unit {0}) (λ _ g. all_bytes g)
writes-as-whole = record {
  before = λ p g held answer outcome next h. tt;
  same = λ p g held answer outcome next h. ap (outcome_as all_bytes) next ∙ same-write g held answer;
}
