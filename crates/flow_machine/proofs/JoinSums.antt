-- Sums over lists, for the pieces of a net.
use Rattle.std.proofs.Common.{◌≡◌, ℕ, ◌+◌, ◌*◌, ◌≤◌, List, [], ◌∷◌, ◌++◌, length, map, Some, suc, zero, refl, ◌∙◌, arith, slice_get, length-append}
use Rattle.std.specs.Prelude.{flat_map, sum_by}
use Rattle.std.proofs.lemmas.List.Sums.{sum_by-cons}
use Rattle.flow_packet.specs.Ids.{times}
use Rattle.flow_packet.proofs.Counts.{times-append}

-- A sum over a mapped list is the sum of what is mapped.
pub sum-mapped : {A B : Type 0} (f : B → ℕ) (g : A → B) (xs : List A) → sum_by f (map g xs) ≡ sum_by (λ x. f (g x)) xs
sum-mapped f g [] = refl
sum-mapped f g (x ∷ xs) = omega (arith, sum-mapped f g xs, sum_by-cons f (g x) (map g xs), sum_by-cons (λ y. f (g y)) x xs)

pub times-flat : {A : Type 0} (id : ℕ) (f : A → List ℕ) (xs : List A) → times id (flat_map f xs) ≡ sum_by (λ x. times id (f x)) xs
times-flat id f [] = refl
times-flat id f (x ∷ xs) = times-append id (f x) (flat_map f xs) ∙ omega (arith, times-flat id f xs, sum_by-cons (λ x. times id (f x)) x xs)

pub length-flat : {A : Type 0} (f : A → List ℕ) (xs : List A) → length (flat_map f xs) ≡ sum_by (λ x. length (f x)) xs
length-flat f [] = refl
length-flat f (x ∷ xs) = length-append (f x) (flat_map f xs) ∙ omega (arith, length-flat f xs, sum_by-cons (λ x. length (f x)) x xs)

pub sum-most : {A : Type 0} (f : A → ℕ) (m : ℕ) (xs : List A) → ((i : ℕ) (x : A) → slice_get xs i ≡ Some x → f x ≤ m) → sum_by f xs ≤ length xs * m
sum-most f m [] each = omega arith
sum-most f m (x ∷ xs) each = let first = each 0 x refl in let rest = sum-most f m xs (λ i y is. each (suc i) y is) in let cons = sum_by-cons f x xs in let more : length (x ∷ xs) * m ≡ m + length xs * m = multiplied (length xs) m in omega (arith, first, rest, cons, more)
  where
    multiplied : (n m : ℕ) → suc n * m ≡ m + n * m
    multiplied n m = omega arith
