-- How the lines of a text begin.
use Rattle.std.proofs.Common.{◌≡◌, ℕ, ◌+◌, ◌-◌, ◌<◌, ◌≤◌, suc, Bool, true, false, List, [], ◌∷◌, length, get_or, take, drop, sym, ap, ◌∙◌, refl, subst, arith, cond, drop-cons, add-one, nat_eq, nat_lt, ◌⊎◌, inl, inr}
use Rattle.std.proofs.lemmas.List.{drop-drop, nil_from_length, get_or-take, get_or-drop, length-take-le, length-drop, take-take}
use Rattle.std.proofs.lemmas.Grind.{common_steps}
use Rattle.std.proofs.lemmas.Bool.Decides.{nat_tests}
use Rattle.std.specs.List.{slice_split, onto_first}
use Rattle.std.specs.Str.Lines.{lines, lines_of_parts, strip_carriage_return}
use Rattle.flow_text.specs.Lines.{line_length, IsNextLine}

abbrev is_newline : ℕ → Bool
is_newline b = nat_eq b 10

pub line-step : (xs : List ℕ) (i : ℕ) → i < length xs → nat_eq (get_or xs i 0) 10 ≡ false → line_length (drop i xs) ≡ suc (line_length (drop (i + 1) xs))
line-step xs i h b = rw (add-one, drop-cons xs i 0, b) refl

pub line-stop : (xs : List ℕ) (i : ℕ) → i < length xs → nat_eq (get_or xs i 0) 10 ≡ true → line_length (drop i xs) ≡ 0
line-stop xs i h b = rw (drop-cons xs i 0, b) refl

abbrev later_parts : List ℕ → List (List ℕ)
later_parts [] = []
later_parts (b ∷ bs) = slice_split is_newline bs

le-or-same : (m n : ℕ) → m ≤ n → (m < n) ⊎ (m ≡ n)
le-or-same m n h = elim (nat_lt m n) as (λ b. nat_lt m n ≡ b → (m < n) ⊎ (m ≡ n)) [ true ↦ λ e. inl (grind (arith, nat_tests)) | false ↦ λ e. inr (grind (arith, nat_tests)) ] refl

split-first : (xs : List ℕ) → slice_split is_newline xs ≡ take (line_length xs) xs ∷ later_parts (drop (line_length xs) xs)
split-first [] = refl
split-first (b ∷ bs) =
    elim (nat_eq b 10) as (λ v. cond v ([] ∷ slice_split is_newline bs) (onto_first b (slice_split is_newline bs))
    ≡ take (cond v 0 (suc (line_length bs))) (b ∷ bs) ∷ later_parts (drop (cond v 0 (suc (line_length bs))) (b ∷ bs))) [
      | true ↦ refl
      | false ↦ ap (onto_first b) (split-first bs)
    ]

take-whole : (xs : List ℕ) (n : ℕ) → n ≡ length xs → take n xs ≡ xs
take-whole xs n e = rw e (grind (arith, common_steps))

drop-whole : (xs : List ℕ) (n : ℕ) → n ≡ length xs → drop n xs ≡ []
drop-whole xs n e = nil_from_length (drop n xs) (grind (arith, common_steps))

lines-last : (xs : List ℕ) → 0 < length xs → line_length xs ≡ length xs → lines xs ≡ xs ∷ []
lines-last xs h e =
    let z : nat_eq (length xs) 0 ≡ false = grind (arith, nat_tests) in
    ap lines_of_parts (split-first xs) ∙ rw (take-whole xs (line_length xs) e, drop-whole xs (line_length xs) e, z) refl

parts-more : (a zs : List ℕ) → lines_of_parts (a ∷ slice_split is_newline zs) ≡ strip_carriage_return a ∷ lines_of_parts (slice_split is_newline zs)
parts-more a zs = rw (split-first zs) refl

lines-more : (xs : List ℕ) (n : ℕ) → n ≡ line_length xs → n < length xs → lines xs ≡ strip_carriage_return (take n xs) ∷ lines (drop (suc n) xs)
lines-more xs n e h =
    ap lines_of_parts (split-first xs) ∙ rw (← e, drop-cons xs n 0) (parts-more (take n xs) (drop (suc n) xs))

-- A line that goes to the end of the bytes is the last, and ends there.
pub line-last : (bytes : List ℕ) (from end : ℕ) → from < length bytes → end ≡ from + line_length (drop from bytes) → end ≡ length bytes → IsNextLine bytes from end end
line-last bytes from end h e f =
    let l : length (drop from bytes) ≡ length bytes - from = grind (arith, common_steps) in
    let n : end - from ≡ length (drop from bytes) = omega arith in
    record {
      order = omega arith;
      further = omega arith;
      within = omega arith;
      in_file = omega arith;
      first = lines-last (drop from bytes) (omega arith) (omega arith) ∙ rw (take-whole (drop from bytes) (end - from) n, drop-whole bytes end f) refl;
    }

line-more : (bytes : List ℕ) (from end cut : ℕ) → end ≡ from + line_length (drop from bytes) → end < length bytes → from ≤ cut → cut ≤ end
    → strip_carriage_return (take (end - from) (drop from bytes)) ≡ take (cut - from) (drop from bytes) → IsNextLine bytes from cut (end + 1)
line-more bytes from end cut e h a b s =
    let l : length (drop from bytes) ≡ length bytes - from = grind (arith, common_steps) in
    let n : end - from ≡ line_length (drop from bytes) = omega arith in
    let k : from + suc (end - from) ≡ end + 1 = omega arith in
    record {
      order = a;
      further = omega arith;
      within = omega arith;
      in_file = omega arith;
      first = lines-more (drop from bytes) (end - from) n (omega arith) ∙ rw (s, drop-drop, k) refl;
    }

strip-yes : (l : List ℕ) → get_or l (length l - 1) 0 ≡ 13 → strip_carriage_return l ≡ take (length l - 1) l
strip-yes l e = let t : nat_eq (get_or l (length l - 1) 0) 13 ≡ true = grind (arith, nat_tests) in rw t refl

strip-no : (l : List ℕ) → (get_or l (length l - 1) 0 ≡ 13 → ⊥) → strip_carriage_return l ≡ l
strip-no l h = let t : nat_eq (get_or l (length l - 1) 0) 13 ≡ false = grind (arith, nat_tests) in rw t refl

last-of : (bytes : List ℕ) (from end : ℕ) → from < end → end < length bytes → get_or (take (end - from) (drop from bytes)) (end - from - 1) 0 ≡ get_or bytes (end - 1) 0
last-of bytes from end l h =
    let k : from + (end - from - 1) ≡ end - 1 = omega arith in
    let q : end - from - 1 < end - from = omega arith in
    rw (get_or-take (end - from) (drop from bytes) (end - from - 1) 0 q, get_or-drop from bytes (end - from - 1) 0, k) refl

piece-length : (bytes : List ℕ) (from end : ℕ) → end < length bytes → length (take (end - from) (drop from bytes)) ≡ end - from
piece-length bytes from end h = length-take-le (end - from) (drop from bytes) (omega (arith, length-drop from bytes))

none_return : get_or {A = ℕ} [] (length {A = ℕ} [] - 1) 0 ≡ 13 → ⊥
none_return e = cc

not_return : (bytes : List ℕ) (from end : ℕ) → end < length bytes → from ≤ end → (from < end → get_or bytes (end - 1) 0 ≡ 13 → ⊥)
    → get_or (take (end - from) (drop from bytes)) (length (take (end - from) (drop from bytes)) - 1) 0 ≡ 13 → ⊥
not_return bytes from end h l c g = elim (le-or-same from end l) [ inl m ↦ at_less m | inr m ↦ at_same m ]
  where
    at_less : from < end → ⊥
    at_less m = c m (sym (last-of bytes from end m h) ∙ rw (piece-length bytes from end h) at g)

    at_same : from ≡ end → ⊥
    at_same m =
        let z : end - from ≡ 0 = omega arith in
        let n : take (end - from) (drop from bytes) ≡ [] = rw z refl in
        let P : List ℕ → Type 0 = λ l. get_or l (length l - 1) 0 ≡ 13 in
        none_return (subst P n g)

-- A line with a carriage return before its end is cut before that.
pub line-cut : (bytes : List ℕ) (from end : ℕ) → end ≡ from + line_length (drop from bytes) → end < length bytes → from < end → get_or bytes (end - 1) 0 ≡ 13 → IsNextLine bytes from (end - 1) (end + 1)
line-cut bytes from end e h l c =
    let p = piece-length bytes from end h in
    let k : end - from - 1 ≡ end - 1 - from = omega arith in
    let q : end - 1 - from ≤ end - from = omega arith in
    let g : get_or (take (end - from) (drop from bytes)) (length (take (end - from) (drop from bytes)) - 1) 0 ≡ 13 = rw p (last-of bytes from end l h ∙ c) in
    let t : take (length (take (end - from) (drop from bytes)) - 1) (take (end - from) (drop from bytes)) ≡ take (end - 1 - from) (drop from bytes) = rw (p, k) (take-take (end - 1 - from) (end - from) (drop from bytes) q) in
    line-more bytes from end (end - 1) e h (omega arith) (omega arith) (strip-yes (take (end - from) (drop from bytes)) g ∙ t)

-- Any other line goes to its end.
pub line-whole : (bytes : List ℕ) (from end : ℕ) → end ≡ from + line_length (drop from bytes) → end < length bytes → from ≤ end → (from < end → get_or bytes (end - 1) 0 ≡ 13 → ⊥) → IsNextLine bytes from end (end + 1)
line-whole bytes from end e h l c =
    line-more bytes from end end e h l (omega arith) (strip-no (take (end - from) (drop from bytes)) (not_return bytes from end h l c))
