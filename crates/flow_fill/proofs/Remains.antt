-- What is left of version 3 in a filled file: its header, and no word.
use Rattle.std.proofs.Common.{◌≡◌, ℕ, ◌+◌, suc, Bool, true, false, cond, List, [], ◌∷◌, ◌++◌, length, Option, Some, None, refl, sym, ap, ◌∙◌}
use Rattle.std.specs.Prelude.{codes, is_none, option_and_then, option_map}
use Rattle.std.specs.List.{AllByRecursion, position, position_from}
use Rattle.std.specs.Str.{bytes_eq}
use Rattle.std.proofs.lemmas.Iterator.Adapters.{position_from-zero}
use Rattle.std.proofs.lemmas.Slice.Eq.{bytes_eq-Decides}
use Rattle.flow_fill.specs.declared.line.WordLine.{WordLine}
use Rattle.flow_fill.specs.declared.place.Place.{Place}
use Rattle.flow_fill.specs.declared.place.Place.TheVariants.{Head, Main, Inside, Other}
use Rattle.flow_fill.specs.declared.word.Given.{Given}
use Rattle.flow_fill.specs.declared.word.FileWord.{FileWord}
use Rattle.flow_fill.specs.declared.fault.FillFault.{FillFault}
use Rattle.flow_fill.specs.declared.fault.FillFault.TheVariants.{NoText}
use Rattle.flow_fill.specs.Reading.{alone, begins_with, behind_word, beside_at, is_header, is_remark, quoted_at, use_line, word_at, word_line, word_line_of}
use Rattle.flow_fill.specs.Filling.{filled_line, filled_lines, is_third, place_after, texted_line, text_for, used_line, word_of, worded_line, words_from, words_in}
use Rattle.flow_fill.specs.Faults.{is_textless, missing}
use Rattle.flow_fill.specs.Laws.{AFilledFileHasNoWords, LinesKeepTheirPlaces, OtherLinesStay}

kept : (place : Place) (given : List Given) (lines : List (List ℕ)) → length (filled_lines place given lines) ≡ length lines
kept place given [] = refl
kept place given (line ∷ more) = ap suc (kept (place_after place line) given more)

-- The lines keep their places.
pub lines_kept : LinesKeepTheirPlaces
lines_kept given lines = kept Head given lines

stays : (place : Place) (given : List Given) (line : List ℕ) → word_line line ≡ None → use_line line ≡ None → filled_line place given line ≡ line
stays Head given line word file = refl
stays Main given line word file = ap (worded_line given line) word ∙ ap (used_line line) file
stays Inside given line word file = refl
stays Other given line word file = refl

-- Other lines stay.
pub others_stay : OtherLinesStay
others_stay place given line = (stays place given line, refl)

-- Each of these words has a text.
abbrev AllTexted : List Given → List FileWord → Type 0
AllTexted given words = AllByRecursion (λ w. is_textless given w ≡ false) words

texted_from : (given : List Given) (i : ℕ) (words : List FileWord) → position_from (is_textless given) i words ≡ None → AllTexted given words
texted_from given i [] none = tt
texted_from given i (w ∷ ws) none = by (is_textless given w) refl (texted_from given (i + 1) ws) none where
  by : (v : Bool) → is_textless given w ≡ v → (position_from (is_textless given) (i + 1) ws ≡ None → AllTexted given ws) → cond v (Some i) (position_from (is_textless given) (i + 1) ws) ≡ None
      → (is_textless given w ≡ false) × AllTexted given ws
  by true e more n = absurd cc
  by false e more n = (e, more n)

no_place : (o : Option ℕ) → option_map {T = ℕ} {U = FillFault} (λ place. NoText place) o ≡ None → o ≡ None
no_place None none = refl
no_place (Some place) none = absurd cc

all_texted : (given : List Given) (words : List FileWord) → missing given words ≡ None → AllTexted given words
all_texted given words none = texted_from given 0 words (sym (position_from-zero (is_textless given) words) ∙ no_place (position (is_textless given) words) none)

behind_first : (given : List Given) (xs ys : List FileWord) → AllTexted given (xs ++ ys) → AllTexted given ys
behind_first given [] ys all = all
behind_first given (x ∷ xs) ys all = behind_first given xs ys all.1

-- A line that begins with one word begins with no other.
begins_other : (word other line : List ℕ) (found : Option (List ℕ)) → behind_word word line ≡ found → (found ≡ None → ⊥) → bytes_eq word other ≡ false → begins_with other line ≡ false
begins_other word other line found is some differ = by (bytes_eq (word_at line).0 word) refl is where
  by : (v : Bool) → bytes_eq (word_at line).0 word ≡ v → cond v (Some (word_at line).1) None ≡ found → begins_with other line ≡ false
  by true e f = ap (λ (w : List ℕ). bytes_eq w other) ((bytes_eq-Decides (word_at line).0 word).0 e) ∙ differ
  by false e f = absurd (some (sym f))

no_use : (line : List ℕ) (file : List ℕ) → use_line line ≡ Some file → behind_word (codes "use") line ≡ None → ⊥
no_use line file is none = let e : use_line line ≡ None = ap (option_and_then (λ behind. option_and_then alone (quoted_at behind))) none in cc

no_word : (line : List ℕ) (w : WordLine) → word_line line ≡ Some w → behind_word (codes "inport") line ≡ None → ⊥
no_word line w is none =
    let e : word_line line ≡ None = ap (option_and_then (λ behind. word_line_of (word_at behind).0 (beside_at (word_at behind).1).0 (beside_at (word_at behind).1).1)) none in cc

-- Neither begins a subnet.
use_begins : (line : List ℕ) (file : List ℕ) → use_line line ≡ Some file → begins_with (codes "subnet") line ≡ false
use_begins line file is = begins_other (codes "use") (codes "subnet") line (behind_word (codes "use") line) refl (no_use line file is) refl

word_begins : (line : List ℕ) (w : WordLine) → word_line line ≡ Some w → begins_with (codes "subnet") line ≡ false
word_begins line w is = begins_other (codes "inport") (codes "subnet") line (behind_word (codes "inport") line) refl (no_word line w is) refl

-- A filled line of the main part is no word's, and begins a subnet where the line does.
abbrev IsDone : List ℕ → List ℕ → Type 0
IsDone line filled = (word_line filled ≡ None) × (begins_with (codes "subnet") filled ≡ begins_with (codes "subnet") line)

used_done : (line : List ℕ) (file : Option (List ℕ)) → use_line line ≡ file → word_line line ≡ None → IsDone line (used_line line file)
used_done line None is none = (none, refl)
used_done line (Some file) is none = (refl, sym (use_begins line file is))

texted_done : (line : List ℕ) (w : WordLine) (text : Option (List ℕ)) → is_none text ≡ false → word_line line ≡ Some w → IsDone line (texted_line line text w.rest)
texted_done line w None has is = absurd cc
texted_done line w (Some text) has is = (refl, sym (word_begins line w is))

worded_done : (given : List Given) (n : ℕ) (line : List ℕ) (word : Option WordLine) → word_line line ≡ word → AllTexted given (word_of n word) → IsDone line (worded_line given line word)
worded_done given n line None is all = used_done line (use_line line) refl is
worded_done given n line (Some w) is all = texted_done line w (text_for given w.name w.beside) all.0 is

first_texted : (given : List Given) (xs ys : List FileWord) → AllTexted given (xs ++ ys) → AllTexted given xs
first_texted given [] ys all = tt
first_texted given (x ∷ xs) ys all = (all.0, first_texted given xs ys all.1)

-- No word is left in a main part, nor in a subnet.
main_done : (given : List Given) (n m : ℕ) (within : Bool) (lines : List (List ℕ)) → AllTexted given (words_from n (cond within Inside Main) lines)
    → words_from m (cond within Inside Main) (filled_lines (cond within Inside Main) given lines) ≡ []
main_done given n m within [] all = refl
main_done given n m true (line ∷ more) all = by (begins_with (codes "end") line) refl (main_done given (suc n) (suc m) false more) (main_done given (suc n) (suc m) true more) all where
  by : (v : Bool) → begins_with (codes "end") line ≡ v → (AllTexted given (words_from (suc n) Main more) → words_from (suc m) Main (filled_lines Main given more) ≡ [])
      → (AllTexted given (words_from (suc n) Inside more) → words_from (suc m) Inside (filled_lines Inside given more) ≡ [])
      → AllTexted given (words_from (suc n) (cond v Main Inside) more) → words_from (suc m) (cond v Main Inside) (filled_lines (cond v Main Inside) given more) ≡ []
  by true e out in_it a = out a
  by false e out in_it a = in_it a
main_done given n m false (line ∷ more) all =
    let done = worded_done given n line (word_line line) refl (first_texted given (word_of n (word_line line)) (words_from (suc n) (place_after Main line) more) all) in
    let filled = worded_line given line (word_line line) in
    ap (λ (w : Option WordLine). word_of m w ++ words_from (suc m) (place_after Main filled) (filled_lines (place_after Main line) given more)) done.0
    ∙ ap (λ (v : Bool). words_from (suc m) (cond v Inside Main) (filled_lines (place_after Main line) given more)) done.1
    ∙ by (begins_with (codes "subnet") line) refl (main_done given (suc n) (suc m) true more) (main_done given (suc n) (suc m) false more) (behind_first given (word_of n (word_line line)) (words_from (suc n) (place_after Main line) more) all) where
      by : (v : Bool) → begins_with (codes "subnet") line ≡ v → (AllTexted given (words_from (suc n) Inside more) → words_from (suc m) Inside (filled_lines Inside given more) ≡ [])
          → (AllTexted given (words_from (suc n) Main more) → words_from (suc m) Main (filled_lines Main given more) ≡ [])
          → AllTexted given (words_from (suc n) (cond v Inside Main) more) → words_from (suc m) (cond v Inside Main) (filled_lines (cond v Inside Main) given more) ≡ []
      by true e in_it out a = in_it a
      by false e in_it out a = out a

-- From the head on the filled lines have no word, and the header stays.
head_done : (given : List Given) (n m : ℕ) (lines : List (List ℕ)) → is_third lines ≡ true → AllTexted given (words_from n Head lines)
    → (words_from m Head (filled_lines Head given lines) ≡ []) × (is_third (filled_lines Head given lines) ≡ true)
head_done given n m [] third all = absurd cc
head_done given n m (line ∷ more) third all = by (is_remark line) (is_header line) (head_done given (suc n) (suc m) more) (main_done given (suc n) (suc m) false more) third all where
  by : (v w : Bool) → (is_third more ≡ true → AllTexted given (words_from (suc n) Head more) → (words_from (suc m) Head (filled_lines Head given more) ≡ []) × (is_third (filled_lines Head given more) ≡ true))
      → (AllTexted given (words_from (suc n) Main more) → words_from (suc m) Main (filled_lines Main given more) ≡ []) → cond v (is_third more) w ≡ true
      → AllTexted given (words_from (suc n) (cond v Head (cond w Main Other)) more)
      → (words_from (suc m) (cond v Head (cond w Main Other)) (filled_lines (cond v Head (cond w Main Other)) given more) ≡ []) × (cond v (is_third (filled_lines (cond v Head (cond w Main Other)) given more)) w ≡ true)
  by true w again main t a = again t a
  by false true again main t a = (main a, refl)
  by false false again main t a = absurd cc

-- No word is left, and the version stays.
pub no_words : AFilledFileHasNoWords
no_words given lines third none = head_done given 1 1 lines third (all_texted given (words_in lines) none)
