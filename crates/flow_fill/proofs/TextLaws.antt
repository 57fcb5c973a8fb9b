-- The lines of a text that is made of lines.
use Rattle.std.proofs.Common.{◌≡◌, ◌≢◌, ℕ, zero, suc, ◌+◌, ◌-◌, Bool, true, false, cond, eqb, List, [], ◌∷◌, ◌++◌, length, length-append, get_or, take, drop, refl, sym, ap, ◌∙◌, append_assoc, arith}
use Rattle.std.specs.List.{AllByRecursion, slice_split, onto_first, flat_map}
use Rattle.std.specs.Str.Lines.{lines, lines_of_parts, strip_carriage_return}
use Rattle.std.proofs.lemmas.Bool.{ne_eqb, eqb-false}
use Rattle.std.proofs.lemmas.List.{get_or_at}
use Rattle.flow_fill.specs.Filling.{ended, text_of}

-- No byte of it ends a line.
abbrev pub InLine : List ℕ → Type 0
InLine bytes = AllByRecursion (λ b. b ≢ 10) bytes

pub in_line_append : (xs ys : List ℕ) → InLine xs → InLine ys → InLine (xs ++ ys)
in_line_append [] ys a b = b
in_line_append (x ∷ xs) ys a b = (a.0, in_line_append xs ys a.1 b)

pub in_line_take : (n : ℕ) (xs : List ℕ) → InLine xs → InLine (take n xs)
in_line_take zero xs all = tt
in_line_take (suc n) [] all = tt
in_line_take (suc n) (x ∷ xs) all = (all.0, in_line_take n xs all.1)

pub in_line_drop : (n : ℕ) (xs : List ℕ) → InLine xs → InLine (drop n xs)
in_line_drop zero xs all = all
in_line_drop (suc n) [] all = tt
in_line_drop (suc n) (x ∷ xs) all = in_line_drop n xs all.1

split_first : (text rest : List ℕ) → InLine text → slice_split (λ b. eqb b 10) (text ++ 10 ∷ rest) ≡ text ∷ slice_split (λ b. eqb b 10) rest
split_first [] rest all = refl
split_first (b ∷ bs) rest all = rw (ne_eqb b 10 all.0, split_first bs rest all.1) refl

abbrev HasFirst : List (List ℕ) → Type 0
HasFirst parts = (first : List ℕ) × (more : List (List ℕ)) × (parts ≡ first ∷ more)

onto_some : (b : ℕ) (parts : List (List ℕ)) → HasFirst (onto_first b parts)
onto_some b [] = (b ∷ [], [], refl)
onto_some b (p ∷ ps) = (b ∷ p, ps, refl)

split_some : (text : List ℕ) → HasFirst (slice_split (λ b. eqb b 10) text)
split_some [] = ([], [], refl)
split_some (b ∷ bs) = elim (eqb b 10) as (λ v. HasFirst (cond v ([] ∷ slice_split (λ c. eqb c 10) bs) (onto_first b (slice_split (λ c. eqb c 10) bs)))) [
  | true ↦ ([], slice_split (λ c. eqb c 10) bs, refl)
  | false ↦ onto_some b (slice_split (λ c. eqb c 10) bs)
]

-- The first line of a text is what stands before its first byte 10, less one byte 13.
first_line : (text rest : List ℕ) → InLine text → lines (text ++ 10 ∷ rest) ≡ strip_carriage_return text ∷ lines rest
first_line text rest all =
    let more = split_some rest in
    ap lines_of_parts (split_first text rest all ∙ ap (λ (l : List (List ℕ)). text ∷ l) more.2) ∙ ap (λ (l : List (List ℕ)). strip_carriage_return text ∷ lines_of_parts l) (sym more.2)

take_front : (xs ys : List ℕ) → take (length xs) (xs ++ ys) ≡ xs
take_front [] ys = refl
take_front (x ∷ xs) ys = ap (λ (l : List ℕ). x ∷ l) (take_front xs ys)

strip_more : (line : List ℕ) → strip_carriage_return (line ++ 13 ∷ []) ≡ line
strip_more line =
    let long : length (line ++ 13 ∷ []) - 1 ≡ length line = (let e : length (line ++ 13 ∷ []) ≡ length line + 1 = length-append line (13 ∷ []) in omega arith) in
    let at : get_or (line ++ 13 ∷ []) (length (line ++ 13 ∷ []) - 1) 0 ≡ 13 = get_or_at line 13 [] 0 (length (line ++ 13 ∷ []) - 1) (sym long) in
    rw at (ap (λ (n : ℕ). take n (line ++ 13 ∷ [])) long ∙ take_front line (13 ∷ []))

-- A line with its end before other text is the first of the lines.
ended_first : (line rest : List ℕ) → InLine line → lines (ended line ++ rest) ≡ line ∷ lines rest
ended_first line rest all = by (eqb (get_or line (length line - 1) 0) 13) refl where
  by : (v : Bool) → eqb (get_or line (length line - 1) 0) 13 ≡ v → lines ((line ++ cond v (13 ∷ 10 ∷ []) (10 ∷ [])) ++ rest) ≡ line ∷ lines rest
  by true e =
      ap lines (append_assoc line (13 ∷ 10 ∷ []) rest ∙ sym (append_assoc line (13 ∷ []) (10 ∷ rest))) ∙ first_line (line ++ 13 ∷ []) rest (in_line_append line (13 ∷ []) all ((λ is. omega arith), tt))
      ∙ ap (λ (l : List ℕ). l ∷ lines rest) (strip_more line)
  by false e =
      let same : strip_carriage_return line ≡ line = rw e refl in
      ap lines (append_assoc line (10 ∷ []) rest) ∙ first_line line rest all ∙ ap (λ (l : List ℕ). l ∷ lines rest) same

-- The text of lines has these lines.
pub text_lines : (rows : List (List ℕ)) → AllByRecursion InLine rows → lines (text_of rows) ≡ rows
text_lines [] all = refl
text_lines (row ∷ rows) all = ended_first row (flat_map ended rows) all.0 ∙ ap (λ (l : List (List ℕ)). row ∷ l) (text_lines rows all.1)

onto_in_line : (b : ℕ) (parts : List (List ℕ)) → b ≢ 10 → AllByRecursion InLine parts → AllByRecursion InLine (onto_first b parts)
onto_in_line b [] other all = ((other, tt), tt)
onto_in_line b (p ∷ ps) other all = ((other, all.0), all.1)

split_in_line : (bytes : List ℕ) → AllByRecursion InLine (slice_split (λ b. eqb b 10) bytes)
split_in_line [] = (tt, tt)
split_in_line (b ∷ bs) = by (eqb b 10) refl (split_in_line bs) where
  by : (v : Bool) → eqb b 10 ≡ v → AllByRecursion InLine (slice_split (λ c. eqb c 10) bs) → AllByRecursion InLine (cond v ([] ∷ slice_split (λ c. eqb c 10) bs) (onto_first b (slice_split (λ c. eqb c 10) bs)))
  by true e more = (tt, more)
  by false e more = onto_in_line b (slice_split (λ c. eqb c 10) bs) (eqb-false b 10 e) more

strip_in_line : (text : List ℕ) → InLine text → InLine (strip_carriage_return text)
strip_in_line text all = elim (eqb (get_or text (length text - 1) 0) 13) as (λ v. InLine (cond v (take (length text - 1) text) text)) [
  | true ↦ in_line_take (length text - 1) text all
  | false ↦ all
]

parts_in_line : (parts : List (List ℕ)) → AllByRecursion InLine parts → AllByRecursion InLine (lines_of_parts parts)
parts_in_line [] all = tt
parts_in_line (x ∷ []) all = elim (eqb (length x) 0) as (λ v. AllByRecursion InLine (cond v [] (x ∷ []))) [
  | true ↦ tt
  | false ↦ (all.0, tt)
]
parts_in_line (x ∷ y ∷ more) all = (strip_in_line x all.0, parts_in_line (y ∷ more) all.1)

-- No line of a text has a byte that ends one.
pub lines_in_line : (bytes : List ℕ) → AllByRecursion InLine (lines bytes)
lines_in_line bytes = parts_in_line (slice_split (λ b. eqb b 10) bytes) (split_in_line bytes)
