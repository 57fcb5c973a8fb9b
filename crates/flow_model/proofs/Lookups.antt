-- Looking elements up in lists.
use Rattle.std.proofs.Common.{◌≡◌, ℕ, Bool, true, false, cond, List, [], ◌∷◌, map, Option, Some, None, suc, zero, refl, ap, sym, subst, ◌∙◌, slice_get, option_map, arith}
use Rattle.std.specs.Prelude.{position, IsSome, ◌==◌, ◌&&◌, ◌||◌}
use Rattle.std.specs.List.{list_any}
use Rattle.std.proofs.lemmas.Bool.{and_from, false≢true}
use Rattle.std.proofs.lemmas.Bool.Decides.{nat_tests}
use Rattle.std.proofs.lemmas.Option.{slice_get-map}
use Rattle.flow_model.proofs.Lists.{position-cons}

-- an element of a list stands at the same place of its mapped list
pub map-there : {A B : Type 0} (f : A → B) (xs : List A) (i : ℕ) (x : A) → slice_get xs i ≡ Some x → slice_get (map f xs) i ≡ Some (f x)
map-there f xs i x is = slice_get-map f xs i ∙ ap (option_map f) is

-- the element at a place is one
pub same-there : {A : Type 0} (xs : List A) (i : ℕ) (x y : A) → slice_get xs i ≡ Some x → slice_get xs i ≡ Some y → x ≡ y
same-there xs i x y is other = cc

one-later : (found : Option ℕ) → IsSome found → IsSome (option_map suc found)
one-later None is = is
one-later (Some n) is = refl

-- where an element passes, a first place is found
pub position-there : {A : Type 0} (p : A → Bool) (xs : List A) (k : ℕ) (x : A) → slice_get xs k ≡ Some x → p x ≡ true → IsSome (position p xs)
position-there p [] k x there passes = absurd cc
position-there {A} p (y ∷ xs) k x there passes =
    subst (λ (found : Option ℕ). IsSome found) (sym (position-cons p y xs)) (by k (p y) refl there (λ n at. position-there p xs n x at passes))
  where
    by : (k : ℕ) (b : Bool) → p y ≡ b → slice_get (y ∷ xs) k ≡ Some x → ((n : ℕ) → slice_get xs n ≡ Some x → IsSome (position p xs))
        → IsSome (cond {A = Option ℕ} b (Some 0) (option_map suc (position p xs)))
    by k true test at rest = refl
    by zero false test at rest =
        let same : y ≡ x = cc in
        absurd (false≢true (sym test ∙ ap p same ∙ passes))
    by (suc k) false test at rest = one-later (position p xs) (rest k at)

or-right : (b c : Bool) → c ≡ true → (b || c) ≡ true
or-right true c is = refl
or-right false c is = is

-- where an element passes, some element does
pub any-there : {A : Type 0} (p : A → Bool) (xs : List A) (k : ℕ) (x : A) → slice_get xs k ≡ Some x → p x ≡ true → list_any p xs ≡ true
any-there p [] k x there passes = absurd cc
any-there p (y ∷ xs) zero x there passes =
    let same : y ≡ x = cc in
    ap (λ b. b || list_any p xs) (ap p same ∙ passes)
any-there p (y ∷ xs) (suc k) x there passes = or-right (p y) (list_any p xs) (any-there p xs k x there passes)

-- two numbers that are the same pass the test
pub numbers-same : (a b : ℕ) → a ≡ b → (a == b) ≡ true
numbers-same a b same = grind (arith, nat_tests)

-- Two equations are two comparisons that hold.
pub both-same : (a b c d : ℕ) → a ≡ b → c ≡ d → ((a == b) && (c == d)) ≡ true
both-same a b c d first second = and_from (a == b) (c == d) (numbers-same a b first) (numbers-same c d second)
