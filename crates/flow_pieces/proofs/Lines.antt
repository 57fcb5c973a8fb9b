-- Of the first line of a text: how long it is, what it is, and what it is behind more bytes.
use Rattle.std.proofs.Common.{◌≡◌, ℕ, ◌+◌, ◌-◌, ◌<◌, ◌≤◌, zero, suc, Bool, true, false, List, [], ◌∷◌, ◌++◌, length, get_or, take, drop, sym, ap, ◌∙◌, refl, arith, cond, drop-cons, nat_eq, nat_lt}
use Rattle.std.proofs.lemmas.List.{nil_from_length}
use Rattle.std.proofs.lemmas.Grind.{common_steps}
use Rattle.std.proofs.lemmas.Bool.Decides.{nat_tests}
use Rattle.std.specs.List.{slice_split, onto_first}
use Rattle.std.specs.Str.Lines.{lines, lines_of_parts, strip_carriage_return}
use Rattle.flow_text.specs.Lines.{line_length}

-- From here to the next sentence as in `flow_text`, which keeps these lemmas to itself.
abbrev is_newline : ℕ → Bool
is_newline b = nat_eq b 10

abbrev later_parts : List ℕ → List (List ℕ)
later_parts [] = []
later_parts (b ∷ bs) = slice_split is_newline bs

split-first : (xs : List ℕ) → slice_split is_newline xs ≡ take (line_length xs) xs ∷ later_parts (drop (line_length xs) xs)
split-first [] = refl
split-first (b ∷ bs) =
    elim (nat_eq b 10) as (λ v. cond v ([] ∷ slice_split is_newline bs) (onto_first b (slice_split is_newline bs))
    ≡ take (cond v 0 (suc (line_length bs))) (b ∷ bs) ∷ later_parts (drop (cond v 0 (suc (line_length bs))) (b ∷ bs))) [
      | true ↦ refl
      | false ↦ ap (onto_first b) (split-first bs)
    ]

parts-more : (a zs : List ℕ) → lines_of_parts (a ∷ slice_split is_newline zs) ≡ strip_carriage_return a ∷ lines_of_parts (slice_split is_newline zs)
parts-more a zs = rw (split-first zs) refl

-- A line with a line feed is the first of the lines.
pub lines-more : (xs : List ℕ) (n : ℕ) → n ≡ line_length xs → n < length xs → lines xs ≡ strip_carriage_return (take n xs) ∷ lines (drop (suc n) xs)
lines-more xs n e h =
    ap lines_of_parts (split-first xs) ∙ rw (← e, drop-cons xs n 0) (parts-more (take n xs) (drop (suc n) xs))

take-whole : (xs : List ℕ) (n : ℕ) → n ≡ length xs → take n xs ≡ xs
take-whole xs n e = rw e (grind (arith, common_steps))

drop-whole : (xs : List ℕ) (n : ℕ) → n ≡ length xs → drop n xs ≡ []
drop-whole xs n e = nil_from_length (drop n xs) (grind (arith, common_steps))

-- Bytes without a line feed are one line.
pub lines-last : (xs : List ℕ) → 0 < length xs → line_length xs ≡ length xs → lines xs ≡ xs ∷ []
lines-last xs h e =
    let z : nat_eq (length xs) 0 ≡ false = grind (arith, nat_tests) in
    ap lines_of_parts (split-first xs) ∙ rw (take-whole xs (line_length xs) e, drop-whole xs (line_length xs) e, z) refl

-- The first line is no longer than all.
most-by : (bs : List ℕ) (v : Bool) → line_length bs ≤ length bs → cond v 0 (suc (line_length bs)) ≤ suc (length bs)
most-by bs true rest = omega arith
most-by bs false rest = omega (rest, arith)

pub at-most : (xs : List ℕ) → line_length xs ≤ length xs
at-most [] = omega arith
at-most (b ∷ bs) = most-by bs (nat_eq b 10) (at-most bs)

-- Behind bytes without a line feed the line goes on.
further-by : (bs : List ℕ) (n : ℕ) (v : Bool) → (n ≤ line_length bs → line_length bs ≡ n + line_length (drop n bs)) → suc n ≤ cond v 0 (suc (line_length bs))
    → cond v 0 (suc (line_length bs)) ≡ suc n + line_length (drop n bs)
further-by bs n true rest h = absurd (omega (h, arith))
further-by bs n false rest h = let e = rest (omega (h, arith)) in omega (e, arith)

pub further : (xs : List ℕ) (n : ℕ) → n ≤ line_length xs → line_length xs ≡ n + line_length (drop n xs)
further xs zero h = omega arith
further [] (suc n) h = absurd (omega (h, arith))
further (b ∷ bs) (suc n) h = further-by bs n (nat_eq b 10) (further bs n) h

behind-by : (bs ys : List ℕ) (v : Bool) → (line_length bs ≡ length bs → line_length (bs ++ ys) ≡ length bs + line_length ys) → cond v 0 (suc (line_length bs)) ≡ suc (length bs)
    → cond v 0 (suc (line_length (bs ++ ys))) ≡ suc (length bs) + line_length ys
behind-by bs ys true rest h = absurd (omega (h, arith))
behind-by bs ys false rest h = let e = rest (omega (h, arith)) in omega (e, arith)

pub length-behind : (xs ys : List ℕ) → line_length xs ≡ length xs → line_length (xs ++ ys) ≡ length xs + line_length ys
length-behind [] ys h = omega arith
length-behind (b ∷ bs) ys h = behind-by bs ys (nat_eq b 10) (length-behind bs ys) h

-- A byte more in front of a line that has some is a byte more of its text.
strip-onto : (b : ℕ) (xs : List ℕ) → 0 < length xs → strip_carriage_return (b ∷ xs) ≡ b ∷ strip_carriage_return xs
strip-onto b [] h = absurd (omega (h, arith))
strip-onto b (x ∷ xs) h =
    let whole : length (b ∷ x ∷ xs) - 1 ≡ suc (length xs) = omega arith in
    let last : length (x ∷ xs) - 1 ≡ length xs = omega arith in
    rw (whole, last) (elim (nat_eq (get_or (x ∷ xs) (length xs) 0) 13) as (λ v. cond v (b ∷ take (length xs) (x ∷ xs)) (b ∷ x ∷ xs) ≡ b ∷ cond v (take (length xs) (x ∷ xs)) (x ∷ xs)) [ true ↦ refl | false ↦ refl ])

lines-onto : (b : ℕ) (bs piece : List ℕ) (more : List (List ℕ)) (fed : Bool) → nat_eq b 10 ≡ false → nat_lt (line_length bs) (length bs) ≡ fed → 0 < line_length bs → lines bs ≡ piece ∷ more
    → lines (b ∷ bs) ≡ (b ∷ piece) ∷ more
lines-onto b bs piece more true other f some e =
    let n = line_length bs in
    let h : n < length bs = grind (arith, nat_tests) in
    let long : suc n ≡ line_length (b ∷ bs) = rw other refl in
    let here : strip_carriage_return (take n bs) ∷ lines (drop (suc n) bs) ≡ piece ∷ more = sym (lines-more bs n refl h) ∙ e in
    let first : strip_carriage_return (take n bs) ≡ piece = cc in
    let later : lines (drop (suc n) bs) ≡ more = cc in
    let text : 0 < length (take n bs) = grind (arith, common_steps) in
    lines-more (b ∷ bs) (suc n) long (omega (h, arith))
    ∙ ap (λ (l : List ℕ). l ∷ lines (drop (suc n) bs)) (strip-onto b (take n bs) text)
    ∙ (λ i. (b ∷ first i) ∷ later i)
lines-onto b bs piece more false other f some e =
    let most = at-most bs in
    let all : line_length bs ≡ length bs = grind (arith, nat_tests) in
    let here : bs ∷ [] ≡ piece ∷ more = sym (lines-last bs (omega (some, all, arith)) all) ∙ e in
    let long : line_length (b ∷ bs) ≡ length (b ∷ bs) = rw other (ap suc all) in
    let first : bs ≡ piece = cc in
    let later : [] ≡ more = cc in
    lines-last (b ∷ bs) (omega arith) long ∙ (λ i. (b ∷ first i) ∷ later i)

unbroken : (b : ℕ) (bs : List ℕ) → line_length (b ∷ bs) ≡ length (b ∷ bs) → (nat_eq b 10 ≡ false) × (line_length bs ≡ length bs)
unbroken b bs e = by (nat_eq b 10) refl e
  where
    by : (v : Bool) → nat_eq b 10 ≡ v → cond v 0 (suc (line_length bs)) ≡ suc (length bs) → (nat_eq b 10 ≡ false) × (line_length bs ≡ length bs)
    by true t h = absurd (omega (h, arith))
    by false t h = (t, omega (h, arith))

-- The first line behind bytes without a line feed begins with these.
pub lines-behind : (cut xs piece : List ℕ) (more : List (List ℕ)) → line_length cut ≡ length cut → 0 < line_length xs → lines xs ≡ piece ∷ more → lines (cut ++ xs) ≡ (cut ++ piece) ∷ more
lines-behind [] xs piece more h some e = e
lines-behind (b ∷ bs) xs piece more h some e =
    let u = unbroken b bs h in
    let long : 0 < line_length (bs ++ xs) = (let l = length-behind bs xs u.1 in omega (l, some, arith)) in
    lines-onto b (bs ++ xs) (bs ++ piece) more (nat_lt (line_length (bs ++ xs)) (length (bs ++ xs))) u.0 refl long (lines-behind bs xs piece more u.1 some e)

-- A text without lines is empty.
none-by : (b : ℕ) (bs : List ℕ) (fed : Bool) → nat_lt (line_length (b ∷ bs)) (length (b ∷ bs)) ≡ fed → lines (b ∷ bs) ≡ [] → (b ∷ bs) ≡ []
none-by b bs true f e =
    let xs : List ℕ = b ∷ bs in
    let h : line_length xs < length xs = grind (arith, nat_tests) in
    let n : strip_carriage_return (take (line_length xs) xs) ∷ lines (drop (suc (line_length xs)) xs) ≡ [] = sym (lines-more xs (line_length xs) refl h) ∙ e in cc
none-by b bs false f e =
    let xs : List ℕ = b ∷ bs in
    let most = at-most xs in
    let all : line_length xs ≡ length xs = grind (arith, nat_tests) in
    let n : xs ∷ [] ≡ [] = sym (lines-last xs (omega arith) all) ∙ e in cc

pub no-lines : (xs : List ℕ) → lines xs ≡ [] → xs ≡ []
no-lines [] e = refl
no-lines (b ∷ bs) e = none-by b bs (nat_lt (line_length (b ∷ bs)) (length (b ∷ bs))) refl e
