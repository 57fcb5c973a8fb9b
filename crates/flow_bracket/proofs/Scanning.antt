-- The Close that are free from a place on, as the place goes back.
use Rattle.std.proofs.Common.{◌≡◌, ℕ, zero, suc, ◌+◌, ◌<◌, ◌≤◌, ◌⊎◌, inl, inr, true, false, List, [], ◌∷◌, length, get_or, Some, refl, ap, arith, nat_lt}
use Rattle.std.specs.Prelude.{slice_get}
use Rattle.std.proofs.lemmas.Bool.Decides.{nat_tests}
use Rattle.std.proofs.lemmas.List.Sums.{count_by_more_no, count_by_more_yes}
use Rattle.flow_packet.specs.declared.packet.Kind.{Kind}
use Rattle.flow_packet.specs.declared.packet.Kind.TheVariants.{Normal, Open, Close}
use Rattle.flow_bracket.specs.Substreams.{is_open, is_close, opens_before, closes_before, AtMostAsMany, AsMany, Matches, Overcloses}
use Rattle.flow_bracket.specs.Scans.{IsFree, AreFree}

-- What is found at a place shows that the place lies within the list.
pub there : {X : Type 0} (xs : List X) (i : ℕ) (x : X) → slice_get xs i ≡ Some x → i < length xs
there [] i x e = cc
there (y ∷ ys) zero x e = omega arith
there (y ∷ ys) (suc i) x e = omega (arith, there ys i x e)

-- A place within a list holds what is read there.
pub stands : {X : Type 0} (xs : List X) (i : ℕ) (d x : X) → i < length xs → get_or xs i d ≡ x → slice_get xs i ≡ Some x
stands [] i d x h e = absurd (omega arith)
stands (y ∷ ys) zero d x h e = ap (λ z. Some z) e
stands (y ∷ ys) (suc i) d x h e = stands ys i d x (omega arith) e

pub at : {X : Type 0} (xs : List X) (i : ℕ) (x d : X) → slice_get xs i ≡ Some x → get_or xs i d ≡ x
at [] i x d e = cc
at (y ∷ ys) zero x d e = cc
at (y ∷ ys) (suc i) x d e = at ys i x d e

-- A place from i on is i or lies behind it.
pub here_or_behind : (i k : ℕ) → i ≤ k → (k ≡ i) ⊎ (i + 1 ≤ k)
here_or_behind i k h = elim (nat_lt i k) as (λ b. nat_lt i k ≡ b → (k ≡ i) ⊎ (i + 1 ≤ k)) [ true ↦ λ e. inr (grind (arith, nat_tests)) | false ↦ λ e. inl (grind (arith, nat_tests)) ] refl

-- what a place adds to the counts
pub record Adds (kinds : List Kind) (i opens closes : ℕ) : Type 0 where
  pub more_opens : opens_before kinds (i + 1) ≡ opens_before kinds i + opens
  pub more_closes : closes_before kinds (i + 1) ≡ closes_before kinds i + closes

abbrev opens_of : Kind → ℕ
opens_of Normal = 0
opens_of Open = 1
opens_of Close = 0

abbrev closes_of : Kind → ℕ
closes_of Normal = 0
closes_of Open = 0
closes_of Close = 1

pub adds : (kinds : List Kind) (i : ℕ) (kind : Kind) → slice_get kinds i ≡ Some kind → Adds kinds i (opens_of kind) (closes_of kind)
adds kinds i Normal e =
    let here = there kinds i Normal e in
    let no : is_open (get_or kinds i Normal) ≡ false = rw (at kinds i Normal Normal e) refl in
    let none : is_close (get_or kinds i Normal) ≡ false = rw (at kinds i Normal Normal e) refl in
    let o = count_by_more_no is_open kinds i Normal here no in
    let c = count_by_more_no is_close kinds i Normal here none in
    record { more_opens = omega (arith, o); more_closes = omega (arith, c) }
adds kinds i Open e =
    let here = there kinds i Open e in
    let yes : is_open (get_or kinds i Open) ≡ true = rw (at kinds i Open Open e) refl in
    let none : is_close (get_or kinds i Open) ≡ false = rw (at kinds i Open Open e) refl in
    let o = count_by_more_yes is_open kinds i Open here yes in
    let c = count_by_more_no is_close kinds i Open here none in
    record { more_opens = omega (arith, o); more_closes = omega (arith, c) }
adds kinds i Close e =
    let here = there kinds i Close e in
    let no : is_open (get_or kinds i Close) ≡ false = rw (at kinds i Close Close e) refl in
    let yes : is_close (get_or kinds i Close) ≡ true = rw (at kinds i Close Close e) refl in
    let o = count_by_more_no is_open kinds i Close here no in
    let c = count_by_more_yes is_close kinds i Close here yes in
    record { more_opens = omega (arith, o); more_closes = omega (arith, c) }

at_most-same : (kinds : List Kind) (i k : ℕ) → k ≡ i → AtMostAsMany kinds i k
at_most-same kinds i k e = rw e (omega arith)

-- a place that adds no Close can be put before
at_most-back : (kinds : List Kind) (i opens k : ℕ) → Adds kinds i opens 0 → i ≤ k → (i + 1 ≤ k → AtMostAsMany kinds (i + 1) k) → AtMostAsMany kinds i k
at_most-back kinds i opens k a h f = elim (here_or_behind i k h) [
  | inl e ↦ at_most-same kinds i k e
  | inr l ↦ (let more = f l in let o = a.more_opens in let c = a.more_closes in omega arith)
]

-- The closes that wait behind a Normal packet wait from it on.
pub free-normal : (kinds : List Kind) (i : ℕ) (cs : List ℕ) → slice_get kinds i ≡ Some Normal → AreFree kinds (i + 1) cs → AreFree kinds i cs
free-normal kinds i [] e free = λ k l m. at_most-back kinds i 0 k (adds kinds i Normal e) l (λ h. free k h m)
free-normal kinds i (c ∷ cs) e free =
    let a = adds kinds i Normal e in (
      record {
        order = omega (arith, free.0.order);
        closes = free.0.closes;
        inside = λ k l m. at_most-back kinds i 0 k a l (λ h. free.0.inside k h m);
        even = (let even = free.0.even in let o = a.more_opens in let n = a.more_closes in omega arith);
      },
      free.1,
    )

-- A Close packet waits, before those that wait behind it.
pub free-close : (kinds : List Kind) (i : ℕ) (cs : List ℕ) → slice_get kinds i ≡ Some Close → AreFree kinds (i + 1) cs → AreFree kinds i (i ∷ cs)
free-close kinds i cs e free = (record { order = omega arith; closes = e; inside = λ k l m. at_most-same kinds i k (omega arith); even = omega arith }, free)

-- an Open that finds no free Close
pub free-open : (kinds : List Kind) (i : ℕ) → slice_get kinds i ≡ Some Open → AreFree kinds (i + 1) [] → AreFree kinds i []
free-open kinds i e free = λ k l m. at_most-back kinds i 1 k (adds kinds i Open e) l (λ h. free k h m)

at_most-across : (kinds : List Kind) (i c k : ℕ) → AsMany kinds i (c + 1) → ((p : ℕ) → i ≤ p → p ≤ c → AtMostAsMany kinds i p) → i ≤ k → (c + 1 ≤ k → AtMostAsMany kinds (c + 1) k) → AtMostAsMany kinds i k
at_most-across kinds i c k even inside l f =
    elim (nat_lt c k) as (λ b. nat_lt c k ≡ b → AtMostAsMany kinds i k) [
      | true ↦ λ e. (let h : c + 1 ≤ k = grind (arith, nat_tests) in let more = f h in omega (arith, even))
      | false ↦ λ e. inside k l (grind (arith, nat_tests))
    ] refl

free-across : (kinds : List Kind) (i c : ℕ) (cs : List ℕ) → i ≤ c → AsMany kinds i (c + 1) → ((p : ℕ) → i ≤ p → p ≤ c → AtMostAsMany kinds i p) → AreFree kinds (c + 1) cs → AreFree kinds i cs
free-across kinds i c [] h even inside free = λ k l m. at_most-across kinds i c k even inside l (λ n. free k n m)
free-across kinds i c (d ∷ ds) h even inside free = (
  record {
    order = omega (arith, free.0.order);
    closes = free.0.closes;
    inside = λ k l m. at_most-across kinds i c k even inside l (λ n. free.0.inside k n m);
    even = (let later = free.0.even in omega (arith, even));
  },
  free.1,
)

-- an Open that takes the first free Close
pub free-pair : (kinds : List Kind) (i c : ℕ) (cs : List ℕ) → slice_get kinds i ≡ Some Open → AreFree kinds (i + 1) (c ∷ cs) → AreFree kinds i cs
free-pair kinds i c cs e free =
    let a = adds kinds i Open e in
    let b = adds kinds c Close free.0.closes in
    let even : AsMany kinds i (c + 1) = (let even = free.0.even in let o = a.more_opens in let n = a.more_closes in let p = b.more_opens in let q = b.more_closes in omega arith) in
    free-across kinds i c cs (omega (arith, free.0.order)) even (λ k l m. at_most-back kinds i 1 k a l (λ h. free.0.inside k h m)) free.1

-- that Close is its own
pub matches-free : (kinds : List Kind) (i c : ℕ) → slice_get kinds i ≡ Some Open → IsFree kinds (i + 1) c → Matches kinds i c
matches-free kinds i c e free = record {
  order = omega (arith, free.order);
  opens = e;
  closes = free.closes;
  inside = λ k l m. free.inside k (omega arith) m;
  even = free.even;
}

-- behind its Close there would be one Close too many
too_many : (kinds : List Kind) (i c : ℕ) → Matches kinds i c → AtMostAsMany kinds (i + 1) (c + 1) → ⊥
too_many kinds i c m more = let b = adds kinds c Close m.closes in let even = m.even in let p = b.more_opens in let q = b.more_closes in omega arith

-- An Open packet is matched by one Close packet at most.
pub one_close : (kinds : List Kind) (i c d : ℕ) → Matches kinds i c → Matches kinds i d → c ≡ d
one_close kinds i c d m n =
    let a : c < d → ⊥ = λ l. too_many kinds i c m (n.inside (c + 1) (omega (arith, m.order)) (omega arith)) in
    let b : d < c → ⊥ = λ l. too_many kinds i d n (m.inside (d + 1) (omega (arith, n.order)) (omega arith)) in
    elim (nat_lt c d) as (λ x. nat_lt c d ≡ x → c ≡ d) [
      | true ↦ λ e. absurd (a (grind (arith, nat_tests)))
      | false ↦ λ e. elim (nat_lt d c) as (λ x. nat_lt d c ≡ x → c ≡ d) [ true ↦ λ f. absurd (b (grind (arith, nat_tests))) | false ↦ λ f. grind (arith, nat_tests) ] refl
    ] refl

-- Where no close waits behind it, an Open packet is matched by none.
pub no_close : (kinds : List Kind) (i c : ℕ) → AreFree kinds (i + 1) [] → Matches kinds i c → ⊥
no_close kinds i c free m =
    let here = there kinds c Close m.closes in
    too_many kinds i c m (free (c + 1) (omega (arith, m.order)) (omega arith))

-- A close that still waits at the beginning of the list is one too many.
pub overcloses : (kinds : List Kind) (c : ℕ) → IsFree kinds 0 c → Overcloses kinds
overcloses kinds c free =
    let here = there kinds c Close free.closes in
    let b = adds kinds c Close free.closes in
    let even = free.even in
    let p = b.more_opens in
    let q = b.more_closes in
    (c + 1, omega arith, omega arith)
