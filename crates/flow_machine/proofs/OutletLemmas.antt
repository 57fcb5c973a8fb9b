-- The connected outputs of a process, counted and found.
use Rattle.std.proofs.Common.{◌≡◌, ℕ, ◌+◌, ◌<◌, ◌≤◌, cond, List, [], ◌∷◌, length, drop, get_or, Option, Some, None, suc, zero, refl, ap, sym, ◌∙◌, arith, slice_get, drop-cons, add-one}
use Rattle.std.specs.Prelude.{count_by, is_some}
use Rattle.std.proofs.lemmas.List.Sums.{sum_by-cons}
use Rattle.flow_model.specs.States.{outlets_from}
use Rattle.flow_machine.specs.Outlets.{connection_at}

-- There are as many outlets as outputs with a connection.
pub length-outlets : (k : ℕ) (os : List (Option ℕ)) → length (outlets_from k os) ≡ count_by is_some os
length-outlets k [] = refl
length-outlets k (Some c ∷ os) = omega (arith, length-outlets (k + 1) os, sum_by-cons (λ o. cond (is_some o) 1 0) (Some c) os)
length-outlets k (None ∷ os) = omega (arith, length-outlets (k + 1) os, sum_by-cons (λ o. cond (is_some o) 1 0) None os)

-- There are at most as many outlets as outputs.
pub length-outlets-most : (k : ℕ) (os : List (Option ℕ)) → length (outlets_from k os) ≤ length os
length-outlets-most k [] = omega arith
length-outlets-most k (Some c ∷ os) = omega (arith, length-outlets-most (k + 1) os)
length-outlets-most k (None ∷ os) = omega (arith, length-outlets-most (k + 1) os)

-- the connections of the connected outputs, in order
abbrev pub connections : List (Option ℕ) → List ℕ
connections [] = []
connections (Some c ∷ os) = c ∷ connections os
connections (None ∷ os) = connections os

-- The connection of the n-th outlet is the n-th among those of the outputs.
pub connection_at-from : (k : ℕ) (os : List (Option ℕ)) (n : ℕ) → connection_at (outlets_from k os) n ≡ slice_get (connections os) n
connection_at-from k [] n = refl
connection_at-from k (Some c ∷ os) zero = refl
connection_at-from k (Some c ∷ os) (suc n) = connection_at-from (k + 1) os n
connection_at-from k (None ∷ os) n = connection_at-from (k + 1) os n

-- from place i on
pub connections-drop : (os : List (Option ℕ)) (i : ℕ) (o : Option ℕ) → i < length os → get_or os i o ≡ o → connections (drop i os) ≡ connections (o ∷ drop (i + 1) os)
connections-drop os i o within is = ap connections (drop-cons os i o within ∙ ap (λ (x : Option ℕ). x ∷ drop (suc i) os) is ∙ ap (λ n. o ∷ drop n os) (sym (add-one i)))

-- the one at place i comes next, if it is connected
pub connection-here : (os : List (Option ℕ)) (i c : ℕ) → i < length os → get_or os i None ≡ Some c → slice_get (connections (drop i os)) 0 ≡ Some c
connection-here os i c within is = ap (λ (xs : List (Option ℕ)). slice_get (connections xs) 0) (drop-cons os i None within ∙ ap (λ (x : Option ℕ). x ∷ drop (suc i) os) is)

-- Behind the last output there is no connection.
pub connections-over : (os : List (Option ℕ)) (i n : ℕ) → length os ≤ i → slice_get (connections (drop i os)) n ≡ None
connections-over os i n over = ap (λ (xs : List (Option ℕ)). slice_get (connections xs) n) (drop-all os i over)
  where
    drop-all : (os : List (Option ℕ)) (i : ℕ) → length os ≤ i → drop i os ≡ []
    drop-all [] zero over = refl
    drop-all [] (suc i) over = refl
    drop-all (o ∷ os) zero over = absurd (omega (arith, over))
    drop-all (o ∷ os) (suc i) over = drop-all os i (omega (arith, over))
