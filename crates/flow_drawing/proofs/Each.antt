-- Loops that add something for each element of a list, told by what is still to be added.
use Rattle.std.proofs.Common.{◌≡◌, ℕ, ◌+◌, ◌<◌, ◌≤◌, List, ◌∷◌, ◌++◌, length, get_or, drop, sym, ◌∙◌, ap, append_assoc}
use mathlib.Core.List.{append-nil}
use Rattle.std.specs.List.{enumerate_from, flat_map}
use Rattle.std.proofs.lemmas.List.{drop_more, drop_all}

-- one element more
pub each-step : {X A : Type 0} (tell : ℕ × X → List A) (xs : List X) (i : ℕ) (x : X) (old new whole : List A)
    → i < length xs → x ≡ get_or xs i x → new ≡ old ++ tell (i, x)
    → old ++ flat_map tell (enumerate_from i (drop i xs)) ≡ whole → new ++ flat_map tell (enumerate_from (i + 1) (drop (i + 1) xs)) ≡ whole
each-step {X} {A} tell xs i x old new whole below is grown so_far =
    let rest : List A = flat_map tell (enumerate_from (i + 1) (drop (i + 1) xs)) in
    let front : drop i xs ≡ x ∷ drop (i + 1) xs = drop_more xs i x below ∙ ap (λ (y : X). y ∷ drop (i + 1) xs) (sym is) in
    ap (λ (l : List A). l ++ rest) grown ∙ append_assoc old (tell (i, x)) rest ∙ ap (λ (l : List X). old ++ flat_map tell (enumerate_from i l)) (sym front) ∙ so_far

-- no element is left
pub each-end : {X A : Type 0} (tell : ℕ × X → List A) (xs : List X) (i : ℕ) (all whole : List A) → length xs ≤ i → all ++ flat_map tell (enumerate_from i (drop i xs)) ≡ whole → all ≡ whole
each-end {X} tell xs i all whole past so_far = sym (append-nil all) ∙ ap (λ (l : List X). all ++ flat_map tell (enumerate_from i l)) (sym (drop_all i xs past)) ∙ so_far
