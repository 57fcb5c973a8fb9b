-- A text of printable lines is cut into just these lines, and the lines of an input are printable.
use Rattle.std.proofs.Common.{◌≡◌, ℕ, zero, suc, ◌+◌, ◌-◌, ◌*◌, ◌≤◌, true, false, cond, eqb, List, [], ◌∷◌, ◌++◌, length, map, replicate, get_or, refl, sym, ap, ◌∙◌, append_assoc, arith}
use Rattle.std.specs.List.{AllByRecursion, flat_map, join_with_byte, slice_split, onto_first, range_with_len}
use Rattle.std.specs.Str.Lines.{lines, lines_of_parts, strip_carriage_return}
use Rattle.std.proofs.lemmas.Bool.{ne_eqb}
use Rattle.flow_make.specs.Numbers.{number_at}
use Rattle.flow_make.specs.Lines.{ended, text_of}
use Rattle.flow_make.specs.Input.{letter_of, word_length, word_of, word_at, line_from, input_lines, words_in_line, lines_for_one}
use Rattle.flow_make.proofs.Words.{letter-byte}

-- No byte of the line is a control byte.
abbrev IsPrintable : List ℕ → Type 0
IsPrintable line = AllByRecursion (λ b. 32 ≤ b) line

split_first : (line rest : List ℕ) → IsPrintable line → slice_split (λ b. eqb b 10) (line ++ 10 ∷ rest) ≡ line ∷ slice_split (λ b. eqb b 10) rest
split_first [] rest all = refl
split_first (b ∷ bs) rest all = rw (ne_eqb b 10 (λ e. let least : 32 ≤ b = all.0 in omega (arith, e)), split_first bs rest all.1) refl

-- The list has a first element.
abbrev HasFirst : List (List ℕ) → Type 0
HasFirst parts = (first : List ℕ) × (more : List (List ℕ)) × (parts ≡ first ∷ more)

onto_some : (b : ℕ) (parts : List (List ℕ)) → HasFirst (onto_first b parts)
onto_some b [] = (b ∷ [], [], refl)
onto_some b (p ∷ ps) = (b ∷ p, ps, refl)

split_some : (text : List ℕ) → HasFirst (slice_split (λ b. eqb b 10) text)
split_some [] = ([], [], refl)
split_some (b ∷ bs) = elim (eqb b 10) as (λ v. HasFirst (cond v ([] ∷ slice_split (λ c. eqb c 10) bs) (onto_first b (slice_split (λ c. eqb c 10) bs)))) [
  | true ↦ ([], slice_split (λ c. eqb c 10) bs, refl)
  | false ↦ onto_some b (slice_split (λ c. eqb c 10) bs)
]

no_return : (line : List ℕ) (k : ℕ) → IsPrintable line → eqb (get_or line k 0) 13 ≡ false
no_return [] k all = refl
no_return (b ∷ bs) zero all = ne_eqb b 13 (λ e. let least : 32 ≤ b = all.0 in omega (arith, e))
no_return (b ∷ bs) (suc k) all = no_return bs k all.1

stripped : (line : List ℕ) → IsPrintable line → strip_carriage_return line ≡ line
stripped line all = rw (no_return line (length line - 1) all) refl

lines_first : (line rest : List ℕ) → IsPrintable line → lines (ended line ++ rest) ≡ line ∷ lines rest
lines_first line rest all =
    let more = split_some rest in
    ap lines (append_assoc line (10 ∷ []) rest) ∙ ap lines_of_parts (split_first line rest all ∙ ap (λ (l : List (List ℕ)). line ∷ l) more.2)
    ∙ ap (λ (t : List ℕ). t ∷ lines_of_parts (more.0 ∷ more.1)) (stripped line all) ∙ ap (λ (l : List (List ℕ)). line ∷ lines_of_parts l) (sym more.2)

cut : (all : List (List ℕ)) → AllByRecursion IsPrintable all → lines (text_of all) ≡ all
unfolding text_of
cut [] each = refl
cut (line ∷ rest) each = lines_first line (flat_map ended rest) each.0 ∙ ap (λ (l : List (List ℕ)). line ∷ l) (cut rest each.1)

both : (xs ys : List ℕ) → IsPrintable xs → IsPrintable ys → IsPrintable (xs ++ ys)
both [] ys a b = b
both (x ∷ xs) ys a b = (a.0, both xs ys a.1 b)

joined : (words : List (List ℕ)) → AllByRecursion IsPrintable words → IsPrintable (join_with_byte 32 words)
joined [] all = tt
joined (w ∷ []) all = all.0
joined (w ∷ v ∷ ws) all = both w (32 ∷ join_with_byte 32 (v ∷ ws)) all.0 (omega arith, joined (v ∷ ws) all.1)

repeated : (count b : ℕ) → 32 ≤ b → IsPrintable (replicate count b)
repeated zero b least = tt
repeated (suc count) b least = (least, repeated count b least)

word : (number : ℕ) → IsPrintable (word_of number)
word number = let letter = letter-byte number in repeated (word_length number) (letter_of number) (omega arith)

-- What a function gives at each number of a range passes, where it passes everywhere.
mapped : (f : ℕ → List ℕ) → ((n : ℕ) → IsPrintable (f n)) → (first count : ℕ) → AllByRecursion IsPrintable (map f (range_with_len first count))
mapped f passes first zero = tt
mapped f passes first (suc count) = (passes first, mapped f passes (first + 1) count)

line : (first place : ℕ) → IsPrintable (line_from first place)
unfolding line_from
line first place = joined (map (word_at first) (range_with_len place words_in_line)) (mapped (word_at first) (λ n. word (number_at first n)) place words_in_line)

-- An input is cut into its lines.
pub input_cut : (number : ℕ) → lines (text_of (input_lines number)) ≡ input_lines number
unfolding input_lines
input_cut number = cut (input_lines number) (mapped (λ n. line_from number (n * words_in_line + 1)) (λ n. line number (n * words_in_line + 1)) 0 (number * lines_for_one))
