-- Elements of lists.
use Rattle.std.proofs.Common.{◌≡◌, ℕ, ◌<◌, List, [], ◌∷◌, ◌++◌, length, Some, suc, zero, refl, arith, slice_get, get_or, sym, ap, ◌∙◌, ◌⊎◌, inl, inr}
use Rattle.std.proofs.lemmas.Option.{slice_get-get_or}

-- There is a member at each place within a list.
pub element-there : {A : Type 0} (xs : List A) (i : ℕ) → i < length xs → (x : A) × (slice_get xs i ≡ Some x)
element-there [] i within = absurd (omega (arith, within))
element-there (x ∷ xs) zero within = (x, refl)
element-there (x ∷ xs) (suc i) within = element-there xs i (omega (arith, within))

-- An empty list has nothing at any place.
pub nothing-there : {A : Type 0} (i : ℕ) (x : A) → slice_get [] i ≡ Some x → ⊥
nothing-there i x is = absurd (cc)

-- What is there twice is the same.
pub some-same : {A : Type 0} (x y : A) → Some x ≡ Some y → x ≡ y
some-same x y is = cc

-- an element of a list with one more
pub last-or : {A : Type 0} (xs : List A) (y : A) (i : ℕ) (z : A) → slice_get (xs ++ y ∷ []) i ≡ Some z → (slice_get xs i ≡ Some z) ⊎ ((i ≡ length xs) × (y ≡ z))
last-or [] y zero z is = inr (refl, (let h : y ≡ z = cc in h))
last-or [] y (suc i) z is = absurd (cc)
last-or (x ∷ xs) y zero z is = inl is
last-or (x ∷ xs) y (suc i) z is = elim (last-or xs y i z is) [
  | inl h ↦ inl h
  | inr h ↦ inr (let e : suc i ≡ length (x ∷ xs) = omega (arith, h.0) in (e, h.1))
]

-- an element that was read
pub read-there : {A : Type 0} (xs : List A) (i : ℕ) (x : A) → i < length xs → x ≡ get_or xs i x → slice_get xs i ≡ Some x
read-there xs i x within is = slice_get-get_or xs i x within ∙ ap (λ y. Some y) (sym is)
