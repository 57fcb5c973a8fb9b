-- Looking connections up in a plan.
use Rattle.std.proofs.Common.{◌≡◌, ℕ, ◌+◌, ◌<◌, ◌≤◌, Bool, true, false, cond, List, [], ◌∷◌, length, drop, drop-cons, get_or, Option, Some, None, suc, zero, nat_eq, refl, ap, sym, ◌∙◌, arith, add-one, option_map}
use Rattle.std.specs.Prelude.{position, ◌≢◌, Result, Ok, Err, IfOk}
use Rattle.flow_model.specs.Plans.{text_at}
use Rattle.flow_model.proofs.Lists.{position-cons}
use Rattle.std.proofs.lemmas.Bool.Decides.{nat_tests}

pub drop-here : {A : Type 0} (xs : List A) (i : ℕ) (x : A) → i < length xs → x ≡ get_or xs i x → drop i xs ≡ x ∷ drop (i + 1) xs
drop-here {A} xs i x within is = drop-cons xs i x within ∙ ap (λ (y : A). y ∷ drop (suc i) xs) (sym is) ∙ ap (λ n. x ∷ drop n xs) (sym (add-one i))

-- so many places on
abbrev pub later : ℕ → Option ℕ → Option ℕ
later n found = option_map (λ k. n + k) found

later-zero : (found : Option ℕ) → later 0 found ≡ found
later-zero None = refl
later-zero (Some k) = ap (λ m. Some m) (let e : 0 + k ≡ k = omega arith in e)

later-suc : (n : ℕ) (found : Option ℕ) → later n (option_map suc found) ≡ later (n + 1) found
later-suc n None = refl
later-suc n (Some k) = ap (λ m. Some m) (let e : n + suc k ≡ n + 1 + k = omega arith in e)

-- A search from place 0 is the search in the whole list.
pub position-start : {A : Type 0} (p : A → Bool) (xs : List A) → later 0 (position p (drop 0 xs)) ≡ position p xs
position-start p xs = later-zero (position p xs)

-- where the one at place i doesn't pass, it is one after it
pub position-next : {A : Type 0} (p : A → Bool) (xs : List A) (i : ℕ) (x : A) → i < length xs → x ≡ get_or xs i x → p x ≡ false → later i (position p (drop i xs)) ≡ later (i + 1) (position p (drop (i + 1) xs))
position-next {A} p xs i x within is fails =
    ap (λ (ys : List A). later i (position p ys)) (drop-here xs i x within is) ∙ ap (later i) (position-cons p x (drop (i + 1) xs) ∙ ap (λ (b : Bool). cond {A = Option ℕ} b (Some 0) (option_map suc (position p (drop (i + 1) xs)))) fails)
    ∙ later-suc i (position p (drop (i + 1) xs))

-- A search that passes its test at a place finds that place.
pub position-here : {A : Type 0} (p : A → Bool) (xs : List A) (i : ℕ) (x : A) → i < length xs → x ≡ get_or xs i x → p x ≡ true → later i (position p (drop i xs)) ≡ Some i
position-here {A} p xs i x within is passes =
    ap (λ (ys : List A). later i (position p ys)) (drop-here xs i x within is) ∙ ap (later i) (position-cons p x (drop (i + 1) xs) ∙ ap (λ (b : Bool). cond {A = Option ℕ} b (Some 0) (option_map suc (position p (drop (i + 1) xs)))) passes)
    ∙ ap (λ m. Some m) (let e : i + 0 ≡ i = omega arith in e)

pub drop-over : {A : Type 0} (xs : List A) (i : ℕ) → length xs ≤ i → drop i xs ≡ []
drop-over [] zero over = refl
drop-over [] (suc i) over = refl
drop-over (x ∷ xs) zero over = absurd (omega (arith, over))
drop-over (x ∷ xs) (suc i) over = drop-over xs i (omega (arith, over))

-- A search behind the end finds nothing.
pub position-over : {A : Type 0} (p : A → Bool) (xs : List A) (i : ℕ) → length xs ≤ i → later i (position p (drop i xs)) ≡ None
position-over {A} p xs i over = ap (λ (ys : List A). later i (position p ys)) (drop-over xs i over)

-- the initial text at an input
pub text-here : (xs : List (ℕ × List ℕ)) (i n : ℕ) (x : ℕ × List ℕ) → i < length xs → x ≡ get_or xs i x → x.0 ≡ n → text_at (drop i xs) n ≡ x.1
text-here xs i n x within is same = let t : nat_eq x.0 n ≡ true = grind (arith, nat_tests) in ap (λ (ys : List (ℕ × List ℕ)). text_at ys n) (drop-here xs i x within is) ∙ rw t refl

-- An initial text of another input doesn't count.
pub text-next : (xs : List (ℕ × List ℕ)) (i n : ℕ) (x : ℕ × List ℕ) → i < length xs → x ≡ get_or xs i x → x.0 ≢ n → text_at (drop i xs) n ≡ text_at (drop (i + 1) xs) n
text-next xs i n x within is other = let t : nat_eq x.0 n ≡ false = grind (arith, nat_tests) in ap (λ (ys : List (ℕ × List ℕ)). text_at ys n) (drop-here xs i x within is) ∙ rw t refl

-- Behind the last initial text there is none.
pub text-over : (xs : List (ℕ × List ℕ)) (i n : ℕ) → length xs ≤ i → text_at (drop i xs) n ≡ []
text-over xs i n over = ap (λ (ys : List (ℕ × List ℕ)). text_at ys n) (drop-over xs i over)

-- What follows from a result that is there holds of it.
pub text-ok : {A E : Type 0} (r : Result A E) (P Q : A → Type 0) → ((v : A) → P v → Q v) → IfOk r P → IfOk r Q
text-ok (Ok v) P Q f h = f v h
text-ok (Err e) P Q f h = tt
