-- What stands at a place of a list, and what holds of all that stand there.
use Rattle.std.proofs.Common.{◌≡◌, ℕ, zero, suc, ◌+◌, ◌<◌, List, [], ◌∷◌, ◌++◌, length, get_or, sym, refl, ap, arith, Some, slice_get, All, map}
use mathlib.Core.Option.{some, some-ne-none, some-injective}
use lib.ListN.{get_elem?}

module _ {A : Type 0} where
  pub at_inside : (vs : List A) (id : ℕ) (v : A) → get_elem? vs id ≡ some v → id < length vs
  at_inside [] id v at = absurd (some-ne-none v (sym at))
  at_inside (u ∷ us) zero v at = omega arith
  at_inside (u ∷ us) (suc i) v at = let r = at_inside us i v at in omega arith

  pub some_Some : (a b : A) → Some a ≡ Some b → a ≡ b
  some_Some a b e = cc

  pub get-exists : (xs : List A) (i : ℕ) → i < length xs → (x : A) × (slice_get xs i ≡ Some x)
  get-exists [] i below = absurd (omega (arith, below))
  get-exists (x ∷ xs) zero below = (x, refl)
  get-exists (x ∷ xs) (suc i) below = get-exists xs i (omega (arith, below))

  pub get-within : (xs : List A) (i : ℕ) (x : A) → slice_get xs i ≡ Some x → i < length xs
  get-within [] i x is = absurd (cc)
  get-within (y ∷ xs) zero x is = omega arith
  get-within (y ∷ xs) (suc i) x is = omega (arith, get-within xs i x is)

-- All places keep what they have when something is pushed.
pub push-old : {A : Type 0} (xs : List A) (x : A) (i : ℕ) → i < length xs → slice_get (xs ++ x ∷ []) i ≡ slice_get xs i
push-old [] x i below = absurd (omega (arith, below))
push-old (y ∷ ys) x zero below = refl
push-old (y ∷ ys) x (suc i) below = push-old ys x i (omega (arith, below))

-- What is pushed stands at the end.
pub push-new : {A : Type 0} (xs : List A) (x : A) (i : ℕ) → i ≡ length xs → slice_get (xs ++ x ∷ []) i ≡ Some x
push-new [] x zero is = refl
push-new [] x (suc i) is = absurd (omega (arith, is))
push-new (y ∷ ys) x zero is = absurd (omega (arith, is))
push-new (y ∷ ys) x (suc i) is = push-new ys x i (omega (arith, is))

-- two lists that have the same in each place
pub same-lists : {A : Type 0} (xs ys : List A) → length xs ≡ length ys → ((i : ℕ) (y : A) → slice_get ys i ≡ Some y → slice_get xs i ≡ Some y) → xs ≡ ys
same-lists [] [] len each = refl
same-lists [] (y ∷ ys) len each = absurd (omega (arith, len))
same-lists (x ∷ xs) [] len each = absurd (omega (arith, len))
same-lists (x ∷ xs) (y ∷ ys) len each = let e : x ≡ y = some_Some x y (each 0 y refl) in let r = same-lists xs ys (omega (arith, len)) (λ i z is. each (suc i) z is) in λ i. e i ∷ r i

-- What holds of one thing holds of all in the list of it.
pub All-one : {X : Type 0} (P : X → Type 0) (x : X) → P x → All P (x ∷ [])
All-one P x p zero d l = p
All-one P x p (suc k) d l = absurd (omega (arith, l))

-- What holds of all holds of those before the last, and of the last.
pub All-front : {X : Type 0} (P : X → Type 0) (xs : List X) (y : X) → All P (xs ++ y ∷ []) → All P xs
All-front P [] y a k d l = absurd (omega (arith, l))
All-front P (x ∷ xs) y a zero d l = a zero d (omega arith)
All-front P (x ∷ xs) y a (suc k) d l = All-front P xs y (λ i e m. a (suc i) e (omega (arith, m))) k d (omega (arith, l))

-- The same of the last.
pub All-last : {X : Type 0} (P : X → Type 0) (xs : List X) (y : X) → All P (xs ++ y ∷ []) → P y
All-last P [] y a = a zero y (omega arith)
All-last P (x ∷ xs) y a = All-last P xs y (λ i e m. a (suc i) e (omega (arith, m)))

-- The word that was read there is the one that stands there.
pub word-at : (ws : List ℕ) (i x : ℕ) → get_elem? ws i ≡ some x → get_or ws i 0 ≡ x
word-at [] i x is = absurd (cc)
word-at (w ∷ ws) zero x is = some-injective w x is
word-at (w ∷ ws) (suc i) x is = word-at ws i x is

-- What stands in the first slots, and behind them.
pub at-front : {A B : Type 0} (f : A → B) (xs : List A) (ys : List B) (p : ℕ) (x : A) → slice_get xs p ≡ Some x → get_elem? (map f xs ++ ys) p ≡ some (f x)
at-front f [] ys p x is = absurd (cc)
at-front {A} f (z ∷ zs) ys zero x is = ap (λ (a : A). some (f a)) (some_Some z x is)
at-front f (z ∷ zs) ys (suc p) x is = at-front f zs ys p x is

-- The same behind them.
pub at-back : {A B : Type 0} (f : A → B) (xs : List A) (ys : List B) (c i : ℕ) → i ≡ length xs + c → get_elem? (map f xs ++ ys) i ≡ get_elem? ys c
at-back f [] ys c i is = ap (get_elem? ys) (let e : i ≡ c = omega (arith, is) in e)
at-back f (z ∷ zs) ys c zero is = absurd (omega (arith, is))
at-back f (z ∷ zs) ys c (suc i) is = at-back f zs ys c i (omega (arith, is))

-- One more that goes from the front of a list to the end of another.
pub one-more : {A : Type 0} (xs : List A) (x : A) (ys : List A) → (xs ++ x ∷ []) ++ ys ≡ xs ++ x ∷ ys
one-more [] x ys = refl
one-more (z ∷ xs) x ys = ap (λ zs. z ∷ zs) (one-more xs x ys)

abbrev first : {A : Type 0} → A → List (ℕ × A) → A
first d [] = d
first d (x ∷ xs) = x.1

-- Two lists that begin at one place with two things and are equal begin with one.
pub head-is : {A : Type 0} (i : ℕ) (x y : A) (xs ys : List (ℕ × A)) → (i, x) ∷ xs ≡ (i, y) ∷ ys → x ≡ y
head-is i x y xs ys e = ap (first x) e
