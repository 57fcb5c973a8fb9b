-- Numbers in a list.
use Rattle.std.proofs.Common.{◌≡◌, ℕ, zero, suc, arith, List, [], ◌∷◌, refl, sym, ◌⊎◌, inl, inr, subst, Contains}
use Rattle.std.proofs.lemmas.List.Elements.{Contains-append_right}
use Rattle.flow_model.proofs.Lists.{same_or_not}

-- None is in the empty list.
pub contains-none : (q : ℕ) → Contains [] q → ⊥
contains-none q there = omega (arith, there.1)

-- The first is in the list.
pub contains-here : (q : ℕ) (xs : List ℕ) → Contains (q ∷ xs) q
contains-here q xs = (0, omega arith, refl)

-- So is each of the others.
pub contains-later : (q x : ℕ) (xs : List ℕ) → Contains xs q → Contains (x ∷ xs) q
contains-later q x xs there = Contains-append_right (x ∷ []) xs q there

-- There are no more.
pub contains-cases : (q x : ℕ) (xs : List ℕ) → Contains (x ∷ xs) q → (q ≡ x) ⊎ Contains xs q
contains-cases q x xs (zero, low, at) = inl (sym at)
contains-cases q x xs (suc k, low, at) = inr (k, omega (arith, low), at)

-- A number is in a list, or not.
pub contains-or-not : (q : ℕ) (xs : List ℕ) → Contains xs q ⊎ (Contains xs q → ⊥)
contains-or-not q [] = inr (contains-none q)
contains-or-not q (x ∷ xs) = elim (same_or_not q x) [
  | inl same ↦ inl (subst (λ (y : ℕ). Contains (y ∷ xs) q) same (contains-here q xs))
  | inr other ↦ elim (contains-or-not q xs) [
    | inl there ↦ inl (contains-later q x xs there)
    | inr missing ↦ inr (λ there. elim (contains-cases q x xs there) [
      | inl same ↦ other same
      | inr later ↦ missing later
    ])
  ]
]
