-- A filled line has no byte that ends a line.
use Rattle.std.proofs.Common.{◌≡◌, ◌≢◌, ℕ, ◌+◌, suc, Bool, true, false, cond, eqb, List, [], ◌∷◌, ◌++◌, take, drop, Option, Some, None, Vec, refl, sym, ap, ◌∙◌, arith}
use Rattle.std.specs.Prelude.{IfSome, option_map, option_and_then, find, codes}
use Rattle.std.specs.List.{AllByRecursion, position, position_from, prefix_len}
use Rattle.std.specs.declared.alloc.Global.{Global}
use Rattle.std.specs.Str.{bytes_eq}
use Rattle.std.proofs.lemmas.Bool.{eqb-false}
use Rattle.std.proofs.lemmas.Iterator.Adapters.{position_from-zero}
use Rattle.flow_parse.specs.Spelling.{is_blank, is_word_byte, doubled}
use Rattle.flow_parse.specs.Names.{is_name}
use Rattle.flow_fill.specs.declared.line.WordLine.{WordLine}
use Rattle.flow_fill.specs.declared.place.Place.{Place}
use Rattle.flow_fill.specs.declared.place.Place.TheVariants.{Head, Main, Inside, Other}
use Rattle.flow_fill.specs.declared.word.Given.{Given}
use Rattle.flow_fill.specs.declared.word.FileWord.{FileWord}
use Rattle.flow_fill.specs.declared.fault.FillFault.{FillFault}
use Rattle.flow_fill.specs.declared.fault.FillFault.TheVariants.{Twice, Unknown, Unspelled}
use Rattle.flow_fill.specs.Reading.{behind_blanks, behind_word, behind_arrow, beside_at, or_all, quoted_at, quoted_here, text_from, in_front, word_at, word_line, word_line_of, use_line, is_remark, is_header}
use Rattle.flow_fill.specs.Filling.{filled_line, filled_lines, given_text, initial_line, is_third, or_else, place_after, text_for, text_of, texted_line, used_line, worded_line}
use Rattle.flow_fill.specs.Faults.{fault_in, fault_of, first_of, given_fault, is_given, is_known, missing}
use Rattle.std.specs.Str.Lines.{lines}
use Rattle.flow_fill.proofs.TextLaws.{InLine, in_line_append, in_line_drop, lines_in_line, text_lines}

blanks_in_line : (bytes : List ℕ) → InLine bytes → InLine (behind_blanks bytes)
blanks_in_line [] all = tt
blanks_in_line (b ∷ bs) all = elim (is_blank b) as (λ v. InLine (cond v (behind_blanks bs) (b ∷ bs))) [
  | true ↦ blanks_in_line bs all.1
  | false ↦ all
]

-- What was found lies in one line.
abbrev FoundInLine : Option (List ℕ × List ℕ) → Type 0
FoundInLine None = Unit {0}
FoundInLine (Some found) = InLine found.0 × InLine found.1

abbrev MaybeInLine : Option (List ℕ) → Type 0
MaybeInLine None = Unit {0}
MaybeInLine (Some text) = InLine text

abbrev WordInLine : Option WordLine → Type 0
WordInLine None = Unit {0}
WordInLine (Some w) = MaybeInLine w.beside × InLine w.rest

front_in_line : (b : ℕ) (found : Option (List ℕ × List ℕ)) → b ≢ 10 → FoundInLine found → FoundInLine (in_front b found)
front_in_line b None other all = tt
front_in_line b (Some found) other all = ((other, all.0), all.1)

text_in_line : (closing : Bool) (bytes : List ℕ) → InLine bytes → FoundInLine (text_from closing bytes)
text_in_line false [] all = tt
text_in_line true [] all = (tt, tt)
text_in_line false (b ∷ bs) all = elim (eqb b 39) as (λ v. FoundInLine (cond v (text_from true bs) (in_front b (text_from false bs)))) [
  | true ↦ text_in_line true bs all.1
  | false ↦ front_in_line b (text_from false bs) all.0 (text_in_line false bs all.1)
]
text_in_line true (b ∷ bs) all = elim (eqb b 39) as (λ v. FoundInLine (cond v (in_front 39 (text_from false bs)) (Some ([], b ∷ bs)))) [
  | true ↦ front_in_line 39 (text_from false bs) (λ is. omega arith) (text_in_line false bs all.1)
  | false ↦ (tt, all)
]

quote_in_line : (rest : List ℕ) → InLine rest → FoundInLine (quoted_here rest)
quote_in_line [] all = tt
quote_in_line (b ∷ bs) all = elim (eqb b 39) as (λ v. FoundInLine (cond v (text_from false bs) None)) [
  | true ↦ text_in_line false bs all.1
  | false ↦ tt
]

all_in_line : (bytes : List ℕ) (found : Option (List ℕ × List ℕ)) → InLine bytes → FoundInLine found → MaybeInLine (or_all bytes found).0 × InLine (or_all bytes found).1
all_in_line bytes None all found = (tt, all)
all_in_line bytes (Some f) all found = found

rest_in_line : (bytes : List ℕ) → InLine bytes → InLine (word_at bytes).1
rest_in_line bytes all = in_line_drop (prefix_len is_word_byte (behind_blanks bytes)) (behind_blanks bytes) (blanks_in_line bytes all)

behind_in_line : (word bytes : List ℕ) → InLine bytes → MaybeInLine (behind_word word bytes)
behind_in_line word bytes all = elim (bytes_eq (word_at bytes).0 word) as (λ v. MaybeInLine (cond v (Some (word_at bytes).1) None)) [
  | true ↦ rest_in_line bytes all
  | false ↦ tt
]

arrow_in_line : (bytes : List ℕ) → InLine bytes → MaybeInLine (behind_arrow bytes)
arrow_in_line bytes all = elim (bytes_eq (take 2 (behind_blanks bytes)) (codes "->")) as (λ v. MaybeInLine (cond v (Some (drop 2 (behind_blanks bytes))) None)) [
  | true ↦ in_line_drop 2 (behind_blanks bytes) (blanks_in_line bytes all)
  | false ↦ tt
]

named_in_line : (name : List ℕ) (beside found : Option (List ℕ)) → MaybeInLine beside → MaybeInLine found
    → WordInLine (option_and_then (λ rest. cond (is_name name) (Some (record { name = name; beside = beside; rest = rest })) None) found)
named_in_line name beside None text all = tt
named_in_line name beside (Some rest) text all = elim (is_name name) as (λ v. WordInLine (cond v (Some (record { name = name; beside = beside; rest = rest })) None)) [
  | true ↦ (text, all)
  | false ↦ tt
]

line_in_line : (found : Option (List ℕ)) → MaybeInLine found
    → WordInLine (option_and_then (λ behind. word_line_of (word_at behind).0 (beside_at (word_at behind).1).0 (beside_at (word_at behind).1).1) found)
line_in_line None all = tt
line_in_line (Some behind) all =
    let rest = (word_at behind).1 in
    let rest_all = rest_in_line behind all in
    let parts = all_in_line rest (quoted_at rest) rest_all (quote_in_line (behind_blanks rest) (blanks_in_line rest rest_all)) in
    named_in_line (word_at behind).0 (beside_at rest).0 (behind_arrow (beside_at rest).1) parts.0 (arrow_in_line (beside_at rest).1 parts.1)

word_in_line : (line : List ℕ) → InLine line → WordInLine (word_line line)
word_in_line line all = line_in_line (behind_word (codes "inport") line) (behind_in_line (codes "inport") line all)

doubled_in_line : (text : List ℕ) → InLine text → InLine (doubled text)
doubled_in_line [] all = tt
doubled_in_line (b ∷ bs) all = elim (eqb b 39) as (λ v. InLine (cond v (39 ∷ 39 ∷ doubled bs) (b ∷ doubled bs))) [
  | true ↦ (λ e. omega arith, (λ e. omega arith, doubled_in_line bs all.1))
  | false ↦ (all.0, doubled_in_line bs all.1)
]

initial_in_line : (text rest : List ℕ) → InLine text → InLine rest → InLine (initial_line text rest)
initial_in_line text rest a b =
    in_line_append ((39 ∷ doubled text ++ 39 ∷ []) ++ 32 ∷ 45 ∷ 62 ∷ []) rest
    (in_line_append (39 ∷ doubled text ++ 39 ∷ []) (32 ∷ 45 ∷ 62 ∷ []) (λ e. omega arith, in_line_append (doubled text) (39 ∷ []) (doubled_in_line text a) (λ e. omega arith, tt)) (λ e. omega arith, (λ e. omega arith, (λ e. omega arith, tt)))) b

-- Each text that is given lies in one line.
abbrev pub GivenInLine : List Given → Type 0
GivenInLine given = AllByRecursion (λ g. InLine g.text) given

given_in_line : (given : List Given) (name : List ℕ) → GivenInLine given → MaybeInLine (given_text given name)
given_in_line [] name all = tt
given_in_line (g ∷ gs) name all = elim (bytes_eq g.word name) as (λ v. MaybeInLine (option_map (λ (h : Given). h.text) (cond v (Some g) (find (λ (h : Given). bytes_eq h.word name) gs)))) [
  | true ↦ all.0
  | false ↦ given_in_line gs name all.1
]

else_in_line : (first second : Option (List ℕ)) → MaybeInLine first → MaybeInLine second → MaybeInLine (or_else first second)
else_in_line None second a b = b
else_in_line (Some text) second a b = a

texted_in_line : (line : List ℕ) (text : Option (List ℕ)) (rest : List ℕ) → InLine line → MaybeInLine text → InLine rest → InLine (texted_line line text rest)
texted_in_line line None rest all a b = all
texted_in_line line (Some text) rest all a b = initial_in_line text rest a b

used_in_line : (line : List ℕ) (file : Option (List ℕ)) → InLine line → InLine (used_line line file)
used_in_line line None all = all
used_in_line line (Some file) all = tt

worded_in_line : (given : List Given) (line : List ℕ) (word : Option WordLine) → GivenInLine given → InLine line → WordInLine word → InLine (worded_line given line word)
worded_in_line given line None g all w = used_in_line line (use_line line) all
worded_in_line given line (Some word) g all w =
    texted_in_line line (text_for given word.name word.beside) word.rest all (else_in_line (given_text given word.name) word.beside (given_in_line given word.name g) w.0) w.1

filled_in_line : (place : Place) (given : List Given) (line : List ℕ) → GivenInLine given → InLine line → InLine (filled_line place given line)
filled_in_line Head given line g all = all
filled_in_line Main given line g all = worded_in_line given line (word_line line) g all (word_in_line line all)
filled_in_line Inside given line g all = all
filled_in_line Other given line g all = all

-- No filled line has a byte that ends one.
pub all_filled_in_line : (place : Place) (given : List Given) (lines : List (List ℕ)) → GivenInLine given → AllByRecursion InLine lines → AllByRecursion InLine (filled_lines place given lines)
all_filled_in_line place given [] g all = tt
all_filled_in_line place given (line ∷ more) g all = (filled_in_line place given line g all.0, all_filled_in_line (place_after place line) given more g all.1)

no_position : (i : ℕ) (text : List ℕ) → position_from (λ b. eqb b 10) i text ≡ None → InLine text
no_position i [] none = tt
no_position i (b ∷ bs) none = by (eqb b 10) refl (no_position (i + 1) bs) none where
  by : (v : Bool) → eqb b 10 ≡ v → (position_from (λ c. eqb c 10) (i + 1) bs ≡ None → InLine bs) → cond v (Some i) (position_from (λ c. eqb c 10) (i + 1) bs) ≡ None → InLine (b ∷ bs)
  by true e more n = absurd cc
  by false e more n = (eqb-false b 10 e, more n)

pub first_none : (a b : Option FillFault) → first_of a b ≡ None → (a ≡ None) × (b ≡ None)
first_none None b none = (refl, none)
first_none (Some fault) b none = absurd cc

no_fault_of : (words : List FileWord) (before : List Given) (place : ℕ) (g : Given) → fault_of words before place g ≡ None → InLine g.text
no_fault_of words before place g none = by (is_given before g.word) (is_known words g.word) (position (λ b. eqb b 10) g.text) refl none where
  by : (v w : Bool) (p : Option ℕ) → position (λ b. eqb b 10) g.text ≡ p → cond v (Some (Twice place)) (cond w (option_map (λ byte. Unspelled place byte) p) (Some (Unknown place))) ≡ None → InLine g.text
  by true w p e n = absurd cc
  by false true None e n = no_position 0 g.text (sym (position_from-zero (λ b. eqb b 10) g.text) ∙ e)
  by false true (Some byte) e n = absurd cc
  by false false p e n = absurd cc

-- Where there is no fault, each text that is given lies in one line.
pub no_fault_given : (words : List FileWord) (before : List Given) (place : ℕ) (given : List Given) → given_fault words before place given ≡ None → GivenInLine given
no_fault_given words before place [] none = tt
no_fault_given words before place (g ∷ more) none =
    let both = first_none (fault_of words before place g) (given_fault words (before ++ g ∷ []) (suc place) more) none in
    (no_fault_of words before place g both.0, no_fault_given words (before ++ g ∷ []) (suc place) more both.1)

other_same : (given : List Given) (lines : List (List ℕ)) → filled_lines Other given lines ≡ lines
other_same given [] = refl
other_same given (line ∷ more) = ap (λ (l : List (List ℕ)). line ∷ l) (other_same given more)

-- The lines of a file of another version stay.
pub another_version : (given : List Given) (lines : List (List ℕ)) → is_third lines ≡ false → filled_lines Head given lines ≡ lines
another_version given [] other = refl
another_version given (line ∷ more) other = by (is_remark line) (is_header line) (another_version given more) other where
  by : (v w : Bool) → (is_third more ≡ false → filled_lines Head given more ≡ more) → cond v (is_third more) w ≡ false
      → line ∷ filled_lines (cond v Head (cond w Main Other)) given more ≡ line ∷ more
  by true w again o = ap (λ (l : List (List ℕ)). line ∷ l) (again o)
  by false true again o = absurd cc
  by false false again o = ap (λ (l : List (List ℕ)). line ∷ l) (other_same given more)

-- The text of the filled lines has just these lines, where there is no fault.
pub filled_text : (given : List Given) (words : List FileWord) (text bytes : List ℕ) (rows : List (List ℕ)) → rows ≡ lines text → fault_in words given ≡ None → bytes ≡ text_of (filled_lines Head given rows)
    → lines bytes ≡ filled_lines Head given (lines text)
filled_text given words text bytes rows cut none made =
    let fine = no_fault_given words [] 0 given (first_none (given_fault words [] 0 given) (missing given words) none).0 in
    ap lines (made ∙ ap (λ (r : List (List ℕ)). text_of (filled_lines Head given r)) cut) ∙ text_lines (filled_lines Head given (lines text)) (all_filled_in_line Head given (lines text) fine (lines_in_line text))

-- So it has, where there is one.
pub filled_made : (given : List Given) (words : List FileWord) (text : List ℕ) (made : Option (Vec ℕ Global)) (rows : List (List ℕ)) → rows ≡ lines text → fault_in words given ≡ None
    → IfSome made (λ bytes. bytes.items ≡ text_of (filled_lines Head given rows)) → IfSome made (λ bytes. lines bytes.items ≡ filled_lines Head given (lines text))
filled_made given words text None rows cut none made = tt
filled_made given words text (Some bytes) rows cut none made = filled_text given words text bytes.items rows cut none made

-- The text of a file of another version has the filled lines, which are its own.
pub same_text : (given : List Given) (text bytes : List ℕ) (rows : List (List ℕ)) → rows ≡ lines text → is_third rows ≡ false → bytes ≡ text → lines bytes ≡ filled_lines Head given (lines text)
same_text given text bytes rows cut other same = ap lines same ∙ sym (another_version given (lines text) (ap is_third (sym cut) ∙ other))
