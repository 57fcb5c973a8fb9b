-- The parts between spaces, the first one off.
use Rattle.std.proofs.Common.{◌≡◌, ◌==◌, ◌↔◌, ℕ, ◌+◌, ◌<◌, ◌≤◌, Bool, true, false, not, cond, subst, sym, List, [], ◌∷◌, length, take, drop, Some, None, position, refl, ap, arith, ltb}
use Rattle.std.specs.List.{All, slice_split, onto_first, position_or_len}
use Rattle.std.proofs.lemmas.List.Elements.{All-nil, All-cons, All-head, All-tail}
use Rattle.std.proofs.lemmas.List.Splits.{slice_split_first}
use Rattle.std.proofs.lemmas.Bool.Decides.{nat_tests}

-- the byte between two parts
abbrev pub ends : ℕ → Bool
ends b = b == 32

whole_step : (b : Bool) (x : ℕ) (xs : List ℕ) (n : ℕ) → length xs + 1 ≤ cond (not b) (1 + n) 0 → (length xs ≤ n → slice_split ends xs ≡ xs ∷ [])
    → cond b ([] ∷ slice_split ends xs) (onto_first x (slice_split ends xs)) ≡ (x ∷ xs) ∷ []
whole_step true x xs n h rest = absurd (omega arith)
whole_step false x xs n h rest = ap (λ parts. onto_first x parts) (rest (omega arith))

whole : (w : List ℕ) → length w ≤ position_or_len ends w → slice_split ends w ≡ w ∷ []
whole [] h = refl
whole (x ∷ xs) h = whole_step (ends x) x xs (position_or_len ends xs) (omega arith) (λ le. whole xs le)

at_some : (test : Bool) (n place : ℕ) → cond test (Some n) None ≡ Some place → (test ≡ true) × (n ≡ place)
at_some true n place e = (refl, cc)
at_some false n place e = cc

at_none : (test : Bool) (n : ℕ) → cond test (Some n) None ≡ None → test ≡ false
at_none true n e = cc
at_none false n e = refl

-- A text with a separator splits into what is before the first, and the pieces of what is behind it.
pub split_some : (w : List ℕ) (end : ℕ) → position ends w ≡ Some end → slice_split ends w ≡ take end w ∷ slice_split ends (drop (end + 1) w)
split_some w end found =
    let at = at_some (ltb (position_or_len ends w) (length w)) (position_or_len ends w) end found in
    let within : position_or_len ends w < length w = grind (arith, nat_tests, at.0) in
    subst (λ (n : ℕ). slice_split ends w ≡ take n w ∷ slice_split ends (drop (n + 1) w)) at.1 (slice_split_first ends w 0 within)

-- A text without a separator is one piece.
pub split_none : (w : List ℕ) → position ends w ≡ None → slice_split ends w ≡ w ∷ []
split_none w found =
    let at = at_none (ltb (position_or_len ends w) (length w)) (position_or_len ends w) found in
    whole w (grind (arith, nat_tests, at))

-- of a list with one part
pub All-one : {X : Type 0} (P : X → Type 0) (x : X) (xs : List X) → xs ≡ x ∷ [] → P x ↔ All P xs
All-one P x xs is = (λ p. subst (All P) (sym is) (All-cons P x [] p (All-nil P)), λ all. All-head P x [] (subst (All P) is all))

-- where the first part passes, the others decide
pub All-passed : {X : Type 0} (P : X → Type 0) (x : X) (xs ys : List X) → ys ≡ x ∷ xs → P x → (all : Type 0) → All P ys ↔ all → All P xs ↔ all
All-passed P x xs ys is p all both =
    (λ rest. both.0 (subst (All P) (sym is) (All-cons P x xs p rest)), λ whole. All-tail P x xs (subst (All P) is (both.1 whole)))

-- where the first part does not pass, not all do
pub All-failed : {X : Type 0} (P : X → Type 0) (x : X) (xs ys : List X) → ys ≡ x ∷ xs → (P x → ⊥) → (all : Type 0) → All P ys ↔ all → all → ⊥
All-failed P x xs ys is not_p all both whole = not_p (All-head P x xs (subst (All P) is (both.1 whole)))
