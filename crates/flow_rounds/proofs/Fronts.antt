-- The first line of the front of a text is the first line of the text, where its line feed is there.
use Rattle.std.proofs.Common.{◌≡◌, ℕ, ◌<◌, ◌≤◌, suc, Bool, true, false, List, [], ◌∷◌, ◌++◌, length, take, drop, sym, ap, ◌∙◌, refl, arith, cond, nat_eq}
use Rattle.std.proofs.lemmas.List.{append-nil, drop-append-le, nil_from_length, take-append-le}
use Rattle.std.proofs.lemmas.Grind.{common_steps}
use Rattle.std.specs.Str.Lines.{lines, strip_carriage_return}
use Rattle.flow_text.specs.Lines.{line_length}
use Rattle.flow_pieces.proofs.Lines.{lines-more, lines-last}

-- Where nothing more is behind it nothing follows.
pub same-rest : (xs ys : List ℕ) → xs ++ ys ≡ xs → ys ≡ []
same-rest [] ys e = e
same-rest (x ∷ xs) ys e = same-rest xs ys (ap (drop 1) e)

front-by : (bs ys : List ℕ) (v : Bool) → (line_length bs < length bs → line_length (bs ++ ys) ≡ line_length bs) → cond v 0 (suc (line_length bs)) < suc (length bs)
    → cond v 0 (suc (line_length (bs ++ ys))) ≡ cond v 0 (suc (line_length bs))
front-by bs ys true rest l = refl
front-by bs ys false rest l = ap suc (rest (omega (l, arith)))

length-front : (xs ys : List ℕ) → line_length xs < length xs → line_length (xs ++ ys) ≡ line_length xs
length-front [] ys h = absurd (omega (h, arith))
length-front (b ∷ bs) ys h = front-by bs ys (nat_eq b 10) (length-front bs ys) h

longer : (xs ys : List ℕ) → length xs ≤ length (xs ++ ys)
longer [] ys = omega arith
longer (x ∷ xs) ys = omega (longer xs ys, arith)

-- A line with its line feed is the first line, whatever follows.
pub lines-fed : (xs ys : List ℕ) → line_length xs < length xs → lines (xs ++ ys) ≡ strip_carriage_return (take (line_length xs) xs) ∷ lines (drop (suc (line_length xs)) xs ++ ys)
lines-fed xs ys h =
    let n = line_length xs in
    let same : n ≡ line_length (xs ++ ys) = sym (length-front xs ys h) in
    let more : n < length (xs ++ ys) = omega (h, longer xs ys, arith) in
    lines-more (xs ++ ys) n same more ∙ rw (take-append-le n xs ys (omega (h, arith)), drop-append-le (suc n) xs ys (omega (h, arith))) refl

-- The next line of what is left is known: it has a line feed, or nothing follows.
pub data IsKnown (left rest : List ℕ) : Type 0 where
  Fed : (line_length left < length left) → IsKnown left rest
  Last : (line_length left ≡ length left) → (rest ≡ []) → IsKnown left rest

-- Then the lines of what is left and of what follows begin with the same line.
pub known-line : (left rest line : List ℕ) (more : List (List ℕ)) → IsKnown left rest → lines left ≡ line ∷ more → lines (left ++ rest) ≡ line ∷ lines (drop (suc (line_length left)) left ++ rest)
known-line left rest line more (Fed h) e =
    let here : lines left ≡ strip_carriage_return (take (line_length left) left) ∷ lines (drop (suc (line_length left)) left) = lines-more left (line_length left) refl h in
    let first : strip_carriage_return (take (line_length left) left) ≡ line = (let f : strip_carriage_return (take (line_length left) left) ∷ lines (drop (suc (line_length left)) left) ≡ line ∷ more = sym here ∙ e in cc) in
    lines-fed left rest h ∙ ap (λ (l : List ℕ). l ∷ lines (drop (suc (line_length left)) left ++ rest)) first
known-line [] rest line more (Last n r) e = cc
known-line (b ∷ bs) rest line more (Last n r) e =
    let left : List ℕ = b ∷ bs in
    let some : 0 < length left = omega arith in
    let here : lines left ≡ left ∷ [] = lines-last left some n in
    let first : left ≡ line = (let f : left ∷ [] ≡ line ∷ more = sym here ∙ e in cc) in
    let gone : drop (suc (line_length left)) left ≡ [] = nil_from_length (drop (suc (line_length left)) left) (grind (arith, common_steps)) in
    rw (r, gone) (ap lines (append-nil left) ∙ here ∙ ap (λ (l : List ℕ). l ∷ []) first)

-- And where nothing is left nothing follows.
pub known-end : (left rest : List ℕ) → IsKnown left rest → lines left ≡ [] → lines (left ++ rest) ≡ []
known-end left rest (Fed h) e =
    let f : strip_carriage_return (take (line_length left) left) ∷ lines (drop (suc (line_length left)) left) ≡ [] = sym (lines-more left (line_length left) refl h) ∙ e in cc
known-end left rest (Last n r) e = rw r (ap lines (append-nil left) ∙ e)
