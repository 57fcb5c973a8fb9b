-- The processes of kinds of the caller's own are counted, one after another.
use Rattle.std.proofs.Common.{◌≡◌, ℕ, zero, suc, ◌+◌, ◌≤◌, Bool, true, false, cond, List, [], ◌∷◌, ◌++◌, length, is_some, refl, ◌∙◌, ap, subst, arith, length-append, map, map-id, sym}
use Rattle.flow_plan.specs.declared.kind.KindSpec.{KindSpec}
use Rattle.flow_plan.specs.Network.{Network}
use Rattle.flow_offer.specs.Processes.{own_place}
use Rattle.std.proofs.lemmas.List.Elements.{filter-append}
use Rattle.std.proofs.lemmas.List.FromFn.{map-range_with_len_more}
use Rattle.std.specs.List.{filter, range_with_len}

-- The processes below k that are of a kind of the caller's own.
abbrev pub own_below : List KindSpec → Network → ℕ → List ℕ
own_below own plan k = filter (λ p. is_some (own_place own plan p)) (range_with_len 0 k)

one-range : (k : ℕ) → range_with_len 0 (k + 1) ≡ range_with_len 0 k ++ k ∷ []
one-range k = sym (same 0 (k + 1)) ∙ map-range_with_len_more (λ n. n) 0 k k (omega arith) ∙ ap (λ (l : List ℕ). l ++ k ∷ []) (same 0 k)
  where
    same : (from count : ℕ) → map (λ (n : ℕ). n) (range_with_len from count) ≡ range_with_len from count
    same from count = map-id (range_with_len from count)

-- One process more.
pub own-more : (own : List KindSpec) (plan : Network) (k : ℕ) → own_below own plan (k + 1) ≡ own_below own plan k ++ cond (is_some (own_place own plan k)) (k ∷ []) []
own-more own plan k = ap (filter (λ p. is_some (own_place own plan p))) (one-range k) ∙ filter-append (λ p. is_some (own_place own plan p)) (range_with_len 0 k) (k ∷ [])

more : (own : List KindSpec) (plan : Network) (k : ℕ) (b : Bool) → is_some (own_place own plan k) ≡ b → length (own_below own plan (k + 1)) ≡ length (own_below own plan k) + length (cond b (k ∷ []) [])
more own plan k b is = ap length (own-more own plan k ∙ ap (λ (c : Bool). own_below own plan k ++ cond c (k ∷ []) []) is) ∙ length-append (own_below own plan k) (cond b (k ∷ []) [])

-- One process more, which is of a kind of the caller's own.
pub one-counted : (own : List KindSpec) (plan : Network) (k count : ℕ) → is_some (own_place own plan k) ≡ true → count ≡ length (own_below own plan k) → count + 1 ≡ length (own_below own plan (k + 1))
one-counted own plan k count is before = let long = more own plan k true is in omega (arith, before, long)

-- One process more, which is of a standard kind.
pub none-counted : (own : List KindSpec) (plan : Network) (k count : ℕ) → is_some (own_place own plan k) ≡ false → count ≡ length (own_below own plan k) → count ≡ length (own_below own plan (k + 1))
none-counted own plan k count is before = let long = more own plan k false is in omega (arith, before, long)

-- There are no more of them than processes.
pub few-counted : (own : List KindSpec) (plan : Network) (k : ℕ) → length (own_below own plan k) ≤ k
few-counted own plan zero = omega arith
few-counted own plan (suc k) = subst (λ (n : ℕ). length (own_below own plan n) ≤ n) next (by (is_some (own_place own plan k)) refl (few-counted own plan k)) where
  next : k + 1 ≡ suc k
  next = omega arith

  by : (b : Bool) → is_some (own_place own plan k) ≡ b → length (own_below own plan k) ≤ k → length (own_below own plan (k + 1)) ≤ k + 1
  by true is less = let long = more own plan k true is in omega (arith, less, long)
  by false is less = let long = more own plan k false is in omega (arith, less, long)
