-- Searches along a list, one element after another.
use Rattle.std.proofs.Common.{◌≡◌, ℕ, ◌+◌, ◌<◌, ◌≤◌, Bool, true, false, zero, suc, List, [], ◌∷◌, ◌++◌, length, take, drop, Option, Some, None, refl, sym, ap, ◌∙◌, cond, ◌||◌, ◌&&◌, nat_eq, nat_lt, not, arith, slice_get, get_or, subst}
use Rattle.std.specs.Prelude.{option_map, option_and_then, position, find, IfSome}
use Rattle.std.specs.List.{list_any, list_all, position_or_len}
use Rattle.std.proofs.lemmas.Bool.Decides.{nat_tests}
use Rattle.std.proofs.lemmas.List.{drop_more}
use Rattle.flow_plan.specs.Network.{Network as Plan}
use Rattle.flow_model.specs.States.{Input, From, Text}
use Rattle.flow_model.specs.Order.{connection_of}
use Rattle.flow_machine.specs.Values.{BodyValue}
use Rattle.flow_cycle.specs.declared.Waits.{Waits}
use Rattle.flow_cycle.specs.Waiting.{waits_for_sender, or_else, rest_from, went, walk}
use Rattle.flow_cycle.specs.Nets.{first_on, wakes_in}
use Rattle.flow_cycle.proofs.Blocked.{is-there}

-- The first that passes is this one, or stands behind it.
pub find-here : {A : Type 0} (test : A → Bool) (xs : List A) (i : ℕ) (d : A) → i < length xs → test (get_or xs i d) ≡ true → find test (drop i xs) ≡ Some (get_or xs i d)
find-here test xs i d below is = ap (find test) (drop_more xs i d below) ∙ ap (λ b. cond b (Some (get_or xs i d)) (find test (drop (i + 1) xs))) is

-- Where this one fails, the first that passes stands behind it.
pub find-next : {A : Type 0} (test : A → Bool) (xs : List A) (i : ℕ) (d : A) → i < length xs → test (get_or xs i d) ≡ false → find test (drop i xs) ≡ find test (drop (i + 1) xs)
find-next test xs i d below is = ap (find test) (drop_more xs i d below) ∙ ap (λ b. cond b (Some (get_or xs i d)) (find test (drop (i + 1) xs))) is

-- The rest of a way begins here, or behind.
pub rest-here : (p : ℕ) (way : List Waits) (i : ℕ) (d : Waits) → i < length way → nat_eq p (get_or way i d).process ≡ true → rest_from p (drop i way) ≡ Some (drop i way)
rest-here p way i d below is =
    ap (rest_from p) (drop_more way i d below) ∙ ap (λ b. cond b (Some (get_or way i d ∷ drop (i + 1) way)) (rest_from p (drop (i + 1) way))) is ∙ ap Some (sym (drop_more way i d below))

-- Where another process stands here, the rest of the way begins behind.
pub rest-next : (p : ℕ) (way : List Waits) (i : ℕ) (d : Waits) → i < length way → nat_eq p (get_or way i d).process ≡ false → rest_from p (drop i way) ≡ rest_from p (drop (i + 1) way)
rest-next p way i d below is = ap (rest_from p) (drop_more way i d below) ∙ ap (λ b. cond b (Some (get_or way i d ∷ drop (i + 1) way)) (rest_from p (drop (i + 1) way))) is

drop-suc : {A : Type 0} (xs : List A) (i : ℕ) (x : A) → slice_get xs i ≡ Some x → drop i xs ≡ x ∷ drop (suc i) xs
drop-suc [] i x is = absurd (cc)
drop-suc (y ∷ xs) zero x is = let same : y ≡ x = cc in ap (λ z. z ∷ xs) same
drop-suc (y ∷ xs) (suc i) x is = drop-suc xs i x is

drop-there : {A : Type 0} (xs : List A) (i : ℕ) (x : A) → slice_get xs i ≡ Some x → drop i xs ≡ x ∷ drop (i + 1) xs
drop-there xs i x is = drop-suc xs i x is ∙ (let n : suc i ≡ i + 1 = omega arith in ap (λ k. x ∷ drop k xs) n)

-- What an idle process waits for at this input, or behind.
module _ {K : Type 0} (plan : Plan) (bodies : List (BodyValue K)) (p : ℕ) (inputs : List Input) (i : ℕ) (within : i < length inputs) where
  abbrev at_input : Option ℕ → Option Waits
  at_input found = option_and_then (λ c. option_map (waits_for_sender p c) (first_on bodies (slice_get plan.connections c))) found

  wakes-by : (found : Option Waits) → at_input (connection_of (slice_get inputs i)) ≡ found → wakes_in plan bodies p (drop i inputs) ≡ or_else found (wakes_in plan bodies p (drop (i + 1) inputs))
  wakes-by found is = by (is-there inputs i within).0 (is-there inputs i within).1
    where
      by : (x : Input) → slice_get inputs i ≡ Some x → wakes_in plan bodies p (drop i inputs) ≡ or_else found (wakes_in plan bodies p (drop (i + 1) inputs))
      by (From c) there =
          ap (wakes_in plan bodies p) (drop-there inputs i (From c) there)
          ∙ ap (λ f. or_else f (wakes_in plan bodies p (drop (i + 1) inputs))) (sym (ap (λ x. at_input (connection_of x)) there) ∙ is)
      by (Text text) there =
          ap (wakes_in plan bodies p) (drop-there inputs i (Text text) there)
          ∙ ap (λ f. or_else f (wakes_in plan bodies p (drop (i + 1) inputs))) (sym (ap (λ x. at_input (connection_of x)) there) ∙ is)

  pub wakes-here : (c : Option ℕ) (w : Waits) → connection_of (slice_get inputs i) ≡ c → at_input c ≡ Some w → wakes_in plan bodies p (drop i inputs) ≡ Some w
  wakes-here c w at is = wakes-by (Some w) (ap at_input at ∙ is)

  pub wakes-next : (c : Option ℕ) → connection_of (slice_get inputs i) ≡ c → at_input c ≡ None → wakes_in plan bodies p (drop i inputs) ≡ wakes_in plan bodies p (drop (i + 1) inputs)
  wakes-next c at is = wakes-by None (ap at_input at ∙ is)

-- The answer is told of what is at the place.
pub told-at : {A : Type 0} (test : A → Bool) (xs : List A) (i : ℕ) (r : Bool) → i < length xs → IfSome (slice_get xs i) (λ x. r ≡ test x) → (x : A) × (slice_get xs i ≡ Some x) × (r ≡ test x)
told-at {A} test xs i r below told = by (is-there xs i below).0 (is-there xs i below).1
  where
    by : (x : A) → slice_get xs i ≡ Some x → (x : A) × (slice_get xs i ≡ Some x) × (r ≡ test x)
    by x there = (x, there, (let h : IfSome (Some x) (λ x. r ≡ test x) = subst (λ (o : Option A). IfSome o (λ x. r ≡ test x)) there told in h))

-- All pass where this one and all behind it do.
pub all-next : {A : Type 0} (test : A → Bool) (xs : List A) (i : ℕ) (r : Bool) → i < length xs → IfSome (slice_get xs i) (λ x. r ≡ test x) → r ≡ true → list_all test (drop i xs) ≡ list_all test (drop (i + 1) xs)
all-next test xs i r below told is =
    let at = told-at test xs i r below told in ap (list_all test) (drop-there xs i at.0 at.1) ∙ ap (λ b. b && list_all test (drop (i + 1) xs)) (sym at.2 ∙ is)

-- Not all pass where this one fails.
pub all-not : {A : Type 0} (test : A → Bool) (xs : List A) (i : ℕ) (r : Bool) → i < length xs → IfSome (slice_get xs i) (λ x. r ≡ test x) → r ≡ false → list_all test (drop i xs) ≡ false
all-not test xs i r below told is =
    let at = told-at test xs i r below told in ap (list_all test) (drop-there xs i at.0 at.1) ∙ ap (λ b. b && list_all test (drop (i + 1) xs)) (sym at.2 ∙ is)

-- The first place at which a test passes

-- it is behind those that don't pass
front-of : {A : Type 0} (test : A → Bool) (xs : List A) (i : ℕ) (x : A) → list_any test (take i xs) ≡ false → slice_get xs i ≡ Some x → test x ≡ true → (position_or_len test xs ≡ i) × (i < length xs)
front-of test [] i x none there is = absurd (cc)
front-of test (y ∷ xs) zero x none there is = (let same : y ≡ x = cc in ap (λ z. cond (not (test z)) (1 + position_or_len test xs) 0) same ∙ ap (λ b. cond (not b) (1 + position_or_len test xs) 0) is, omega arith)
front-of test (y ∷ xs) (suc i) x none there is = by (test y) refl none (λ later. front-of test xs i x later there is)
  where
    by : (b : Bool) → test y ≡ b → (b || list_any test (take i xs)) ≡ false → (list_any test (take i xs) ≡ false → (position_or_len test xs ≡ i) × (i < length xs)) → (cond (not (test y)) (1 + position_or_len test xs) 0 ≡ suc i) × (suc i < suc (length xs))
    by true t none on = absurd (cc)
    by false t none on = let h = on none in (ap (λ b. cond (not b) (1 + position_or_len test xs) 0) t ∙ omega (arith, h.0), omega (arith, h.1))

none-of : {A : Type 0} (test : A → Bool) (xs : List A) → list_any test xs ≡ false → position_or_len test xs ≡ length xs
none-of test [] none = refl
none-of test (y ∷ xs) none = by (test y) refl none (λ later. none-of test xs later)
  where
    by : (b : Bool) → test y ≡ b → (b || list_any test xs) ≡ false → (list_any test xs ≡ false → position_or_len test xs ≡ length xs) → cond (not (test y)) (1 + position_or_len test xs) 0 ≡ suc (length xs)
    by true t none on = absurd (cc)
    by false t none on = let h = on none in ap (λ b. cond (not b) (1 + position_or_len test xs) 0) t ∙ omega (arith, h)

lt-is : (a b : ℕ) → a < b → nat_lt a b ≡ true
lt-is a b less = grind (arith, nat_tests)

lt-not : (a : ℕ) → nat_lt a a ≡ false
lt-not a = grind (arith, nat_tests)

-- It is this place where this one passes and none before it does.
pub position-here : {A : Type 0} (test : A → Bool) (xs : List A) (i : ℕ) (r : Bool) → i < length xs → IfSome (slice_get xs i) (λ x. r ≡ test x) → r ≡ true → list_any test (take i xs) ≡ false → position test xs ≡ Some i
position-here test xs i r below told is none =
    let at = told-at test xs i r below told in
    let front = front-of test xs i at.0 none at.1 (sym at.2 ∙ is) in
    (λ j. cond (nat_lt (front.0 j) (length xs)) (Some (front.0 j)) None) ∙ ap (λ b. cond b (Some i) None) (lt-is i (length xs) front.1)

-- Where none passes there is no such place.
pub position-none : {A : Type 0} (test : A → Bool) (xs : List A) → list_any test xs ≡ false → position test xs ≡ None
position-none test xs none =
    (λ j. cond (nat_lt (none-of test xs none j) (length xs)) (Some (none-of test xs none j)) None) ∙ ap (λ b. cond b (Some (length xs)) None) (lt-not (length xs))

-- One more that doesn't pass.
any-more : {A : Type 0} (test : A → Bool) (xs : List A) (k : ℕ) (x : A) → slice_get xs k ≡ Some x → test x ≡ false → list_any test (take k xs) ≡ false → list_any test (take (suc k) xs) ≡ false
any-more test [] k x there is before = absurd (cc)
any-more test (y ∷ ys) zero x there is before = let same : y ≡ x = cc in ap (λ z. test z || false) same ∙ ap (λ b. b || false) is
any-more test (y ∷ ys) (suc k) x there is before = by (test y) (λ rest. any-more test ys k x there is rest) before
  where
    by : (b : Bool) → (list_any test (take k ys) ≡ false → list_any test (take (suc k) ys) ≡ false) → (b || list_any test (take k ys)) ≡ false → (b || list_any test (take (suc k) ys)) ≡ false
    by false later before = later before
    by true later before = absurd (cc)

-- Where none before this one passes, and this one fails, none up to here does.
pub any-next : {A : Type 0} (test : A → Bool) (xs : List A) (i : ℕ) (r : Bool) → i < length xs → IfSome (slice_get xs i) (λ x. r ≡ test x) → r ≡ false → list_any test (take i xs) ≡ false → list_any test (take (i + 1) xs) ≡ false
any-next test xs i r below told is none =
    let at = told-at test xs i r below told in
    let n : suc i ≡ i + 1 = omega arith in
    ap (λ k. list_any test (take k xs)) (sym n) ∙ any-more test xs i at.0 at.1 (sym at.2 ∙ is) none

take-whole : {A : Type 0} (xs : List A) (i : ℕ) → length xs ≤ i → take i xs ≡ xs
take-whole [] zero most = refl
take-whole [] (suc i) most = refl
take-whole (x ∷ xs) zero most = absurd (omega (arith, most))
take-whole (x ∷ xs) (suc i) most = ap (λ ys. x ∷ ys) (take-whole xs i (omega (arith, most)))

-- Where none of all passed there is no first place.
pub position-end : {A : Type 0} (test : A → Bool) (xs : List A) (i : ℕ) → length xs ≤ i → list_any test (take i xs) ≡ false → position test xs ≡ None
position-end test xs i most none = position-none test xs (sym (ap (list_any test) (take-whole xs i most)) ∙ none)

-- A walk that comes back, and one that goes on.
pub walk-back : (waits : ℕ → Option Waits) (n : ℕ) (way : List Waits) (p : ℕ) (rest : List Waits) → 0 < n → rest_from p way ≡ Some rest → walk waits n way p ≡ Some rest
walk-back waits zero way p rest some is = absurd (omega (arith, some))
walk-back waits (suc n) way p rest some is = ap (λ r. went r (waits p) (λ w. walk waits n (way ++ w ∷ []) w.to)) is

-- A walk goes on to the process that is waited for, where it hasn't come back.
pub walk-on : (waits : ℕ → Option Waits) (n m : ℕ) (way : List Waits) (p : ℕ) (w : Waits) → n ≡ suc m → rest_from p way ≡ None → waits p ≡ Some w → walk waits n way p ≡ walk waits m (way ++ w ∷ []) w.to
walk-on waits n m way p w one is at =
    ap (λ k. walk waits k way p) one ∙ ap (λ r. went r (waits p) (λ v. walk waits m (way ++ v ∷ []) v.to)) is ∙ ap (λ r. went None r (λ v. walk waits m (way ++ v ∷ []) v.to)) at

-- And one that has nowhere to go.
pub walk-none : (waits : ℕ → Option Waits) (n : ℕ) (way : List Waits) (p : ℕ) → rest_from p way ≡ None → waits p ≡ None → walk waits n way p ≡ None
walk-none waits zero way p is at = refl
walk-none waits (suc n) way p is at =
    ap (λ r. went r (waits p) (λ v. walk waits n (way ++ v ∷ []) v.to)) is ∙ ap (λ r. went None r (λ v. walk waits n (way ++ v ∷ []) v.to)) at
