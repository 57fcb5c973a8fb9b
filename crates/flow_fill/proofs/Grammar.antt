-- A word's line, read by the grammar of network files.
use Rattle.std.proofs.Common.{◌≡◌, ℕ, Bool, true, false, cond, eqb, List, [], ◌∷◌, ◌++◌, take, drop, Option, Some, None, refl, sym, ap, subst, ◌∙◌, append_assoc}
use Rattle.std.proofs.Math.Numerals.{one-add}
use Rattle.std.specs.Prelude.{◌||◌, codes, option_and_then}
use Rattle.std.specs.List.{AllByRecursion, prefix_len}
use Rattle.std.specs.Str.{bytes_eq}
use Rattle.std.proofs.lemmas.Bool.{eqb-true}
use Rattle.std.proofs.lemmas.Slice.Eq.{bytes_eq-Decides}
use Rattle.flow_parse.specs.declared.token.Token.{Token}
use Rattle.flow_parse.specs.declared.token.Token.TheVariants.{Word, Arrow, Quoted}
use Rattle.flow_parse.specs.Spelling.{is_blank, is_word_byte, Begins, BeginsRow, Blank, DoesntBegin, doubled, IsRow, spelling}
use Rattle.flow_parse.specs.Forms.{mention, port}
use Rattle.flow_parse.specs.Names.{is_name}
use Rattle.flow_fill.specs.declared.line.WordLine.{WordLine}
use Rattle.flow_fill.specs.declared.place.Place.TheVariants.{Main}
use Rattle.flow_fill.specs.Reading.{beside_at, behind_arrow, behind_blanks, behind_word, or_all, quoted_at, quoted_here, word_at, word_line, word_line_of}
use Rattle.flow_fill.specs.Filling.{filled_line, initial_line, texted_line, worded_line}
use Rattle.flow_fill.specs.Laws.{AnOuterInputBecomesAText, AWordsLineBecomesItsText, quoted, word_row}
use Rattle.flow_fill.proofs.Quotes.{text_again}

-- Blanks in front are passed, to a byte that is none.
strip_is : (blanks rest : List ℕ) → Blank blanks → DoesntBegin is_blank rest → behind_blanks (blanks ++ rest) ≡ rest
strip_is [] [] all ends = refl
strip_is [] (b ∷ bs) all ends = rw ends refl
strip_is (b ∷ bs) rest all ends = rw all.0 (strip_is bs rest all.1 ends)

word_not_blank : (b : ℕ) → is_word_byte b ≡ true → is_blank b ≡ false
word_not_blank b is = elim (eqb b 32) as (λ v. eqb b 32 ≡ v → (v || eqb b 9) ≡ false) [
  | true ↦ λ e. let at : is_word_byte 32 ≡ true = subst (λ (n : ℕ). is_word_byte n ≡ true) (eqb-true b 32 e) is in absurd cc
  | false ↦ λ e. elim (eqb b 9) as (λ v. eqb b 9 ≡ v → v ≡ false) [
    | true ↦ λ e. let at : is_word_byte 9 ≡ true = subst (λ (n : ℕ). is_word_byte n ≡ true) (eqb-true b 9 e) is in absurd cc
    | false ↦ λ e. refl
  ] refl
] refl

-- The run of bytes of a word that nothing lengthens.
run_is : (word rest : List ℕ) → AllByRecursion (λ b. is_word_byte b ≡ true) word → DoesntBegin is_word_byte rest → (take (prefix_len is_word_byte (word ++ rest)) (word ++ rest) ≡ word) × (drop (prefix_len is_word_byte (word ++ rest)) (word ++ rest) ≡ rest)
run_is [] [] all ends = (refl, refl)
run_is [] (b ∷ bs) all ends = (rw ends refl, rw ends refl)
run_is (b ∷ bs) rest all ends = let r = run_is bs rest all.1 ends in (rw (all.0, one-add) (ap (λ (l : List ℕ). b ∷ l) r.0), rw (all.0, one-add) r.1)

-- A word that bytes begin with is the one that is read.
word_is : (bytes word rest : List ℕ) → Begins 3 bytes (Word word) rest → ((word_at bytes).0 ≡ word) × ((word_at bytes).1 ≡ rest)
word_is bytes [] rest b = absurd (b.ends.0 refl)
word_is bytes (w ∷ ws) rest b =
    let here : behind_blanks bytes ≡ (w ∷ ws) ++ rest = ap behind_blanks b.parts ∙ strip_is b.blanks ((w ∷ ws) ++ rest) b.are_blank (word_not_blank w b.ends.1.0) in
    let run = run_is (w ∷ ws) rest b.ends.1 b.ends.2 in
    (ap (λ (l : List ℕ). take (prefix_len is_word_byte l) l) here ∙ run.0, ap (λ (l : List ℕ). drop (prefix_len is_word_byte l) l) here ∙ run.1)

-- So what stands behind it is what is found there.
behind_is : (bytes word rest : List ℕ) → Begins 3 bytes (Word word) rest → behind_word word bytes ≡ Some rest
behind_is bytes word rest b =
    let w = word_is bytes word rest b in
    let same : bytes_eq (word_at bytes).0 word ≡ true = (bytes_eq-Decides (word_at bytes).0 word).1 w.0 in
    ap (λ (v : Bool). cond v (Some (word_at bytes).1) None) same ∙ ap (λ (l : List ℕ). Some l) w.1

arrow_is : (bytes rest : List ℕ) → Begins 3 bytes Arrow rest → behind_arrow bytes ≡ Some rest
arrow_is bytes rest b =
    let here : behind_blanks bytes ≡ 45 ∷ 62 ∷ rest = ap behind_blanks b.parts ∙ strip_is b.blanks (45 ∷ 62 ∷ rest) b.are_blank refl in
    ap (λ (l : List ℕ). cond (bytes_eq (take 2 l) (codes "->")) (Some (drop 2 l)) None) here

quote_is : (bytes text rest : List ℕ) → Begins 3 bytes (Quoted text) rest → quoted_at bytes ≡ Some (text, rest)
quote_is bytes text rest b =
    let here : behind_blanks bytes ≡ 39 ∷ doubled text ++ 39 ∷ rest = ap behind_blanks b.parts ∙ strip_is b.blanks (spelling (Quoted text) ++ rest) b.are_blank refl ∙ append_assoc (39 ∷ doubled text) (39 ∷ []) rest in
    ap quoted_here here ∙ text_again text rest b.ends

-- An arrow is no quoted text.
arrow_no_quote : (bytes rest : List ℕ) → Begins 3 bytes Arrow rest → quoted_at bytes ≡ None
arrow_no_quote bytes rest b = ap quoted_here (ap behind_blanks b.parts ∙ strip_is b.blanks (45 ∷ 62 ∷ rest) b.are_blank refl)

-- The text beside a word, where there is one, and the arrow behind it.
beside_is : (bytes : List ℕ) (beside : Option (List ℕ)) (row : List Token) (rest : List ℕ) → BeginsRow 3 bytes (quoted beside ++ Arrow ∷ row) rest
    → (more : List ℕ) × ((beside_at bytes).0 ≡ beside) × (behind_arrow (beside_at bytes).1 ≡ Some more) × BeginsRow 3 more row rest
beside_is bytes None row rest r =
    let none = ap (or_all bytes) (arrow_no_quote bytes r.0 r.1) in
    (r.0, ap (λ (p : Option (List ℕ) × List ℕ). p.0) none, ap (λ (p : Option (List ℕ) × List ℕ). behind_arrow p.1) none ∙ arrow_is bytes r.0 r.1, r.2)
beside_is bytes (Some text) row rest r =
    let some = ap (or_all bytes) (quote_is bytes text r.0 r.1) in
    (r.2.0, ap (λ (p : Option (List ℕ) × List ℕ). p.0) some, ap (λ (p : Option (List ℕ) × List ℕ). behind_arrow p.1) some ∙ arrow_is r.0 r.2.0 r.2.1, r.2.2)

-- A word's line is read as one.
line_is : (line word : List ℕ) (beside : Option (List ℕ)) (row : List Token) (rest : List ℕ) → BeginsRow 3 line (word_row word beside row) rest → is_name word ≡ true
    → (more : List ℕ) × (word_line line ≡ Some (record { name = word; beside = beside; rest = more })) × BeginsRow 3 more row rest
line_is line word beside row rest r named =
    let first = behind_is line (codes "inport") r.0 r.1 in
    let second = word_is r.0 word r.2.0 r.2.1 in
    let b = beside_is r.2.0 beside row rest r.2.2 in
    let after : WordLine → List ℕ → Option WordLine = λ w l. Some (record w { rest = l }) in
    let made : List ℕ → Option (List ℕ) → Option (List ℕ) → Option WordLine = λ n t o. option_and_then (λ l. cond (is_name n) (Some (record { name = n; beside = t; rest = l })) None) o in (
      b.0,
      ap (option_and_then (λ behind. word_line_of (word_at behind).0 (beside_at (word_at behind).1).0 (beside_at (word_at behind).1).1)) first
          ∙ ap (λ (n : List ℕ). made n (beside_at (word_at r.0).1).0 (behind_arrow (beside_at (word_at r.0).1).1)) second.0
          ∙ ap (λ (l : List ℕ). made word (beside_at l).0 (behind_arrow (beside_at l).1)) second.1
          ∙ ap (λ (t : Option (List ℕ)). made word t (behind_arrow (beside_at r.2.0).1)) b.1
          ∙ ap (λ (o : Option (List ℕ)). made word beside o) b.2
          ∙ ap (λ (v : Bool). cond v (Some (record { name = word; beside = beside; rest = b.0 })) None) named,
      b.3,
    )

-- The line of an initial text begins with the text and an arrow.
initial_is : (text rest end : List ℕ) (row : List Token) → BeginsRow 3 rest row end → BeginsRow 3 (initial_line text rest) (Quoted text ∷ Arrow ∷ row) end
initial_is text rest end row r = (
  (32 ∷ 45 ∷ 62 ∷ []) ++ rest,
  record { blanks = []; are_blank = tt; parts = append_assoc (39 ∷ doubled text ++ 39 ∷ []) (32 ∷ 45 ∷ 62 ∷ []) rest; ends = refl },
  (rest, record { blanks = 32 ∷ []; are_blank = (refl, tt); parts = refl; ends = tt }, r),
)

-- A word's line becomes its text.
pub words_line : AWordsLineBecomesItsText
words_line given line word beside row text r named has =
    let l = line_is line word beside row r.0 r.1 named in
    let made : filled_line Main given line ≡ initial_line text l.0 = ap (worded_line given line) l.1 ∙ ap (λ (t : Option (List ℕ)). texted_line line t l.0) has in
    (r.0, subst (λ (b : List ℕ). BeginsRow 3 b (Quoted text ∷ Arrow ∷ row) r.0) (sym made) (initial_is text l.0 r.0 row l.2), r.2)

-- So does an outer input.
pub outer_input : AnOuterInputBecomesAText
outer_input given line word into to text is named has =
    let row : List Token = port into ++ mention to in
    let spelled : word_row word None row ≡ is.0 = is.2.0 in
    let r = words_line given line word None row text (subst (IsRow 3 line) (sym spelled) is.1) named has in
    (Quoted text ∷ Arrow ∷ row, r, (refl, tt))
