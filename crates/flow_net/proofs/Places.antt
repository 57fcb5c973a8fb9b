-- Laws of lists that change at one place.
use Rattle.std.proofs.Common.{◌≡◌, ◌≢◌, ℕ, List, [], ◌∷◌, Some, true, false, refl, ap, arith, nat_eq, Bool, slice_get, slice_set, get_or, suc, zero, length, ◌⊎◌, inl, inr, IsSome}
use Rattle.std.specs.Option.{option_map}
use Rattle.std.proofs.lemmas.Bool.{false≢true}
use Rattle.std.proofs.lemmas.Bool.Decides.{nat_tests}
use Rattle.flow_net.specs.Drafts.{updated}

-- Two numbers are the same or not.
pub same_or_not : (a b : ℕ) → (a ≡ b) ⊎ (a ≢ b)
same_or_not a b = by (nat_eq a b) refl
  where
    by : (test : Bool) → nat_eq a b ≡ test → (a ≡ b) ⊎ (a ≢ b)
    by true t = inl (grind (arith, nat_tests))
    by false t = inr (λ e. grind (arith, nat_tests))

-- to set an element to what a function makes of it is to change it by the function
pub slice_set-updated : {A : Type 0} (f : A → A) (xs : List A) (i : ℕ) (d y : A) → y ≡ f (get_or xs i d) → slice_set xs i y ≡ updated f xs i
slice_set-updated f [] i d y is = refl
slice_set-updated f (x ∷ xs) zero d y is = ap (λ z. z ∷ xs) is
slice_set-updated f (x ∷ xs) (suc i) d y is = ap (λ zs. x ∷ zs) (slice_set-updated f xs i d y is)

-- A member that was updated is its update.
pub slice_get-updated_same : {A : Type 0} (f : A → A) (xs : List A) (i : ℕ) → slice_get (updated f xs i) i ≡ option_map f (slice_get xs i)
slice_get-updated_same f [] i = refl
slice_get-updated_same f (x ∷ xs) zero = refl
slice_get-updated_same f (x ∷ xs) (suc i) = slice_get-updated_same f xs i

-- All other members stay as they were.
pub slice_get-updated_other : {A : Type 0} (f : A → A) (xs : List A) (i k : ℕ) → k ≢ i → slice_get (updated f xs i) k ≡ slice_get xs k
slice_get-updated_other f [] i k ne = refl
slice_get-updated_other f (x ∷ xs) zero zero ne = absurd (ne refl)
slice_get-updated_other f (x ∷ xs) zero (suc k) ne = refl
slice_get-updated_other f (x ∷ xs) (suc i) zero ne = refl
slice_get-updated_other f (x ∷ xs) (suc i) (suc k) ne = slice_get-updated_other f xs i k (λ e. ne (ap suc e))

-- An update keeps the length.
pub length-updated : {A : Type 0} (f : A → A) (xs : List A) (i : ℕ) → length (updated f xs i) ≡ length xs
length-updated f [] i = refl
length-updated f (x ∷ xs) zero = refl
length-updated f (x ∷ xs) (suc i) = ap suc (length-updated f xs i)

-- What is set at a place that is there stands there.
pub slice_get-set_is : {A : Type 0} (xs : List A) (i : ℕ) (y : A) → IsSome (slice_get xs i) → slice_get (slice_set xs i y) i ≡ Some y
slice_get-set_is [] i y there = absurd (false≢true there)
slice_get-set_is (x ∷ xs) zero y there = refl
slice_get-set_is (x ∷ xs) (suc i) y there = slice_get-set_is xs i y there

-- All other places keep what they have.
pub slice_get-set_other : {A : Type 0} (xs : List A) (i k : ℕ) (y : A) → k ≢ i → slice_get (slice_set xs i y) k ≡ slice_get xs k
slice_get-set_other [] i k y ne = refl
slice_get-set_other (z ∷ xs) zero zero y ne = absurd (ne refl)
slice_get-set_other (z ∷ xs) zero (suc k) y ne = refl
slice_get-set_other (z ∷ xs) (suc i) zero y ne = refl
slice_get-set_other (z ∷ xs) (suc i) (suc k) y ne = slice_get-set_other xs i k y (λ e. ne (ap suc e))
