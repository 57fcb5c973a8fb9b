-- A queue of packets from which the first is taken.
use Rattle.std.proofs.Common.{◌≡◌, ℕ, zero, suc, ◌<◌, List, [], ◌∷◌, ◌++◌, length, get_or, set, take, drop, refl, sym, ap, ◌∙◌, arith, Some, append_assoc}
use Rattle.std.specs.Prelude.{slice_get, All}
use Rattle.std.proofs.Math.Seq.{take-suc, take-suc-set}
use Rattle.std.proofs.lemmas.List.Elements.{All-append}
use Rattle.flow_packet.specs.Tree.{Tree}
use Rattle.flow_packet.specs.Bare.{IsBare}

same_fronts : {X : Type 0} (xs ys : List X) (x y : X) → xs ++ x ∷ [] ≡ ys ++ y ∷ [] → xs ≡ ys
same_fronts [] [] x y e = refl
same_fronts [] (b ∷ []) x y e = cc
same_fronts [] (b ∷ c ∷ ys) x y e = cc
same_fronts (a ∷ []) [] x y e = cc
same_fronts (a ∷ c ∷ xs) [] x y e = cc
same_fronts (a ∷ xs) (b ∷ ys) x y e =
    let first : a ≡ b = cc in
    let rest : xs ++ x ∷ [] ≡ ys ++ y ∷ [] = cc in
    λ i. first i ∷ same_fronts xs ys x y rest i

-- what is left where the last of the bare packets has gone
pub one_less : {X : Type 0} (xs ys rest : List X) (p : X) (k : ℕ) → k < length ys → xs ++ take (suc k) ys ≡ rest ++ p ∷ [] → rest ≡ xs ++ take k ys
one_less xs ys rest p k within e =
    let cut : take (suc k) ys ≡ take k ys ++ get_or ys k p ∷ [] = take-suc ys k p within in
    let joined : xs ++ take (suc k) ys ≡ (xs ++ take k ys) ++ get_or ys k p ∷ [] = rw (cut, append_assoc) refl in
    sym (same_fronts (xs ++ take k ys) rest (get_or ys k p) p (sym joined ∙ e))

-- the packet that is taken is the first of those that are left
pub drop-taken : {X : Type 0} (xs : List X) (i : ℕ) (x b : X) → slice_get xs i ≡ Some x → drop i xs ≡ x ∷ drop (suc i) (set xs i b)
drop-taken [] i x b e = cc
drop-taken (y ∷ ys) zero x b e = let same : y ≡ x = cc in ap (λ z. z ∷ ys) same
drop-taken (y ∷ ys) (suc i) x b e = drop-taken ys i x b e

-- one place more is bare
pub bare-taken : (ts : List Tree) (i : ℕ) (b : Tree) → i < length ts → IsBare b → All IsBare (take i ts) → All IsBare (take (suc i) (set ts i b))
bare-taken ts i b within bare before =
    let one : All IsBare (b ∷ []) = all_one b bare in
    rw (take-suc-set ts i b within) (All-append IsBare (take i ts) (b ∷ []) before one)
  where
    all_one : (b : Tree) → IsBare b → All IsBare (b ∷ [])
    all_one b bare zero d h = bare
    all_one b bare (suc k) d h = absurd (omega arith)
