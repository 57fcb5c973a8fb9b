-- Tests on all and on some elements of a list, one element after another.
use Rattle.std.proofs.Common.{◌≡◌, ℕ, zero, suc, ◌<◌, Bool, true, false, List, [], ◌∷◌, length, take, Option, Some, None, refl, sym, ◌∙◌, ap, arith, slice_get}
use Rattle.std.specs.Prelude.{◌&&◌, ◌||◌, IfSome}
use Rattle.std.specs.List.{list_all, list_any}
use Rattle.flow_model.proofs.Lookups.{any-there}

and-false : (b : Bool) → (b && false) ≡ false
and-false true = refl
and-false false = refl

-- One more that passes.
pub all-more : {A : Type 0} → (f : A → Bool) (xs : List A) (k : ℕ) (x : A) → slice_get xs k ≡ Some x → f x ≡ true → list_all f (take k xs) ≡ true → list_all f (take (suc k) xs) ≡ true
all-more f [] k x there is before = absurd cc
all-more f (y ∷ ys) zero x there is before = let same : y ≡ x = cc in let first : f y ≡ true = cc in rw first refl
all-more f (y ∷ ys) (suc k) x there is before = by (f y) (λ rest. all-more f ys k x there is rest) before
  where
    by : (b : Bool) → (list_all f (take k ys) ≡ true → list_all f (take (suc k) ys) ≡ true) → (b && list_all f (take k ys)) ≡ true → (b && list_all f (take (suc k) ys)) ≡ true
    by true later before = later before
    by false later before = absurd cc

-- One that doesn't.
pub all-not : {A : Type 0} → (f : A → Bool) (xs : List A) (k : ℕ) (x : A) → slice_get xs k ≡ Some x → f x ≡ false → list_all f xs ≡ false
all-not f [] k x there is = absurd cc
all-not f (y ∷ ys) zero x there is = let same : y ≡ x = cc in let first : f y ≡ false = cc in rw first refl
all-not f (y ∷ ys) (suc k) x there is = let rest = all-not f ys k x there is in rw rest (and-false (f y))

-- One more that doesn't pass.
pub any-more : {A : Type 0} → (f : A → Bool) (xs : List A) (k : ℕ) (x : A) → slice_get xs k ≡ Some x → f x ≡ false → list_any f (take k xs) ≡ false → list_any f (take (suc k) xs) ≡ false
any-more f [] k x there is before = absurd cc
any-more f (y ∷ ys) zero x there is before = let same : y ≡ x = cc in let first : f y ≡ false = cc in rw first refl
any-more f (y ∷ ys) (suc k) x there is before = by (f y) (λ rest. any-more f ys k x there is rest) before
  where
    by : (b : Bool) → (list_any f (take k ys) ≡ false → list_any f (take (suc k) ys) ≡ false) → (b || list_any f (take k ys)) ≡ false → (b || list_any f (take (suc k) ys)) ≡ false
    by false later before = later before
    by true later before = absurd cc

-- Where some pass, one does.
pub any-some : {A : Type 0} → (f : A → Bool) (xs : List A) → list_any f xs ≡ true → (k : ℕ) × (x : A) × (slice_get xs k ≡ Some x) × (f x ≡ true)
any-some f [] is = absurd cc
any-some {A} f (y ∷ ys) is = by (f y) refl (λ rest. any-some f ys rest) is
  where
    Found : List A → Type 0
    Found xs = (k : ℕ) × (x : A) × (slice_get xs k ≡ Some x) × (f x ≡ true)

    by : (b : Bool) → f y ≡ b → (list_any f ys ≡ true → Found ys) → (b || list_any f ys) ≡ true → Found (y ∷ ys)
    by true at later is = (zero, y, refl, at)
    by false at later is = let found = later is in (suc found.0, found.1, found.2, found.3)

-- Where none passes, each doesn't.
pub any-none : {A : Type 0} → (f : A → Bool) (xs : List A) (k : ℕ) (x : A) → list_any f xs ≡ false → slice_get xs k ≡ Some x → f x ≡ false
any-none {A} f xs k x none there = by (f x) refl
  where
    by : (b : Bool) → f x ≡ b → f x ≡ false
    by false at = at
    by true at = absurd (let some = any-there f xs k x there at in let bad : true ≡ false = cc in cc)

-- Where all pass, each does.
pub all-each : {A : Type 0} → (f : A → Bool) (xs : List A) (k : ℕ) (x : A) → list_all f xs ≡ true → slice_get xs k ≡ Some x → f x ≡ true
all-each {A} f xs k x all there = by (f x) refl
  where
    by : (b : Bool) → f x ≡ b → f x ≡ true
    by true at = at
    by false at = absurd (let bad = all-not f xs k x there at in cc)

-- There is an element at a place that is within the list.
within : {A : Type 0} (xs : List A) (i : ℕ) → i < length xs → slice_get xs i ≡ None → ⊥
within [] i here none = absurd (omega (arith, here))
within (x ∷ xs) zero here none = cc
within (x ∷ xs) (suc i) here none = within xs i (omega (arith, here)) none

-- The same two of any, where the answer is told of what is at the place.
pub any-there-if : {A : Type 0} → (f : A → Bool) (xs : List A) (k : ℕ) (r : Bool) → k < length xs → IfSome (slice_get xs k) (λ x. r ≡ f x) → r ≡ true → list_any f xs ≡ true
any-there-if {A} f xs k r below told is = by (slice_get xs k) refl told
  where
    by : (found : Option A) → slice_get xs k ≡ found → IfSome found (λ x. r ≡ f x) → list_any f xs ≡ true
    by (Some x) there told = any-there f xs k x there (sym told ∙ is)
    by None there told = absurd (within xs k below there)

-- Where none of the first passed a test, and the next doesn't, none of one more does.
pub any-more-if : {A : Type 0} → (f : A → Bool) (xs : List A) (k : ℕ) (r : Bool) → k < length xs → IfSome (slice_get xs k) (λ x. r ≡ f x) → r ≡ false → list_any f (take k xs) ≡ false
    → list_any f (take (suc k) xs) ≡ false
any-more-if {A} f xs k r below told is before = by (slice_get xs k) refl told
  where
    by : (found : Option A) → slice_get xs k ≡ found → IfSome found (λ x. r ≡ f x) → list_any f (take (suc k) xs) ≡ false
    by (Some x) there told = any-more f xs k x there (sym told ∙ is) before
    by None there told = absurd (within xs k below there)
