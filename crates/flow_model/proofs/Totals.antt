-- The numbers made, left and dropped add up.
use Rattle.std.proofs.Common.{◌≡◌, ◌≢◌, ℕ, ◌+◌, ◌<◌, ◌≤◌, ◌-◌, ◌⊎◌, List, [], ◌∷◌, ◌++◌, length, map, Some, true, false, Bool, cond, refl, ap, arith, nat_eq, nat_lt, ◌∙◌, sym, zero, suc, inl, inr, slice_get, length-append}
use Rattle.std.specs.List.{sum_by, range_with_len}
use Rattle.std.proofs.lemmas.Bool.Decides.{nat_tests}
use Rattle.std.proofs.lemmas.List.Sums.{sum_by-cons}
use Rattle.std.proofs.lemmas.List.FromFn.{length-map-range_with_len}
use Rattle.flow_packet.specs.Ids.{times, id_by, maker_of, ordinal_of}
use Rattle.flow_packet.proofs.Counts.{times-append}
use Rattle.flow_model.specs.States.{Process, State}
use Rattle.flow_model.specs.Places.{places, all_places, ids_dropped, made_by, made_count, OnePlaceCounted, TotalsAddUp}
use Rattle.flow_model.proofs.Lists.{same_or_not}
use Rattle.flow_model.proofs.Places.{times-all_places}
use Rattle.flow_model.proofs.Drops.{length-times}

-- the ids that processes made, of the process p and those after it
pub made_ids : {K : Type 0} → ℕ → List (Process K) → List ℕ
made_ids p [] = []
made_ids p (x ∷ xs) = map (id_by p) (range_with_len 0 x.held.made) ++ made_ids (p + 1) xs

-- each process made fewer than 2^32
abbrev pub FewMade : {K : Type 0} → List (Process K) → Type 0
FewMade {K} processes = (k : ℕ) (x : Process K) → slice_get processes k ≡ Some x → x.held.made ≤ 4294967296

times-others : (id p k n : ℕ) → maker_of id ≢ p → k + n ≤ 4294967296 → times id (map (id_by p) (range_with_len k n)) ≡ 0
times-others id p k zero ne few = refl
times-others id p k (suc n) ne few =
    let t : nat_eq (id_by p k) id ≡ false = grind (arith, nat_tests) in
    rw t (omega (arith, times-others id p (k + 1) n ne (omega (arith, few))))

-- a number passes the test of a range that it is in
within : ℕ → ℕ → ℕ → ℕ
within k n o = cond (nat_lt o k) 0 (cond (nat_lt o (k + n)) 1 0)

within-more : (k n o : ℕ) → cond (nat_eq k o) 1 0 + within (k + 1) n o ≡ within k (suc n) o
unfolding within
within-more k n o = grind (arith, nat_tests)

within-none : (k o : ℕ) → within k zero o ≡ 0
unfolding within
within-none k o = grind (arith, nat_tests)

within-all : (n o : ℕ) → within 0 n o ≡ cond (nat_lt o n) 1 0
unfolding within
within-all n o = grind (arith, nat_tests)

times-own : (id p k n : ℕ) → maker_of id ≡ p → k + n ≤ 4294967296 → times id (map (id_by p) (range_with_len k n)) ≡ within k n (ordinal_of id)
times-own id p k zero is few = sym (within-none k (ordinal_of id))
times-own id p k (suc n) is few =
    let t : nat_eq (id_by p k) id ≡ nat_eq k (ordinal_of id) = grind (arith, nat_tests) in
    ap {B = ℕ} (λ b. cond b 1 0 + times id (map (id_by p) (range_with_len (k + 1) n))) t
    ∙ ap (λ m. cond (nat_eq k (ordinal_of id)) 1 0 + m) (times-own id p (k + 1) n is (omega (arith, few)))
    ∙ within-more k n (ordinal_of id)

-- 1 where the id is one of those that its maker made, among processes numbered from p on
made_from : {K : Type 0} → ℕ → ℕ → List (Process K) → ℕ
made_from id p xs = cond (nat_lt (maker_of id) p) 0 (made_by id (slice_get xs (maker_of id - p)))

no-made : (b : Bool) → cond {A = ℕ} b 0 0 ≡ 0
no-made true = refl
no-made false = refl

from-below : {K : Type 0} (id p : ℕ) (xs : List (Process K)) → maker_of id < p → made_from id p xs ≡ 0
unfolding made_from
from-below id p xs below = let t : nat_lt (maker_of id) p ≡ true = grind (arith, nat_tests) in rw t refl

from-here : {K : Type 0} (id p : ℕ) (x : Process K) (xs : List (Process K)) → maker_of id ≡ p → made_from id p (x ∷ xs) ≡ cond (nat_lt (ordinal_of id) x.held.made) 1 0
unfolding made_from
from-here id p x xs same =
    let t : nat_lt (maker_of id) p ≡ false = grind (arith, nat_tests) in
    let z : maker_of id - p ≡ zero = omega (arith, same) in
    rw (t, z) refl

from-later : {K : Type 0} (id p : ℕ) (x : Process K) (xs : List (Process K)) → p < maker_of id → made_from id p (x ∷ xs) ≡ made_from id (p + 1) xs
unfolding made_from
from-later {K} id p x xs above =
    let t : nat_lt (maker_of id) p ≡ false = grind (arith, nat_tests) in
    let t' : nat_lt (maker_of id) (p + 1) ≡ false = grind (arith, nat_tests) in
    let z : maker_of id - p ≡ suc (maker_of id - (p + 1)) = omega (arith, above) in
    rw (t, t', z) refl

lt_or : (a b : ℕ) → (a < b) ⊎ (b ≤ a)
lt_or a b = by (nat_lt a b) refl
  where
    by : (t : Bool) → nat_lt a b ≡ t → (a < b) ⊎ (b ≤ a)
    by true h = inl (grind (arith, nat_tests))
    by false h = inr (grind (arith, nat_tests))

-- how often an id stands among those that were made
times-made_ids : {K : Type 0} (id p : ℕ) (xs : List (Process K)) → FewMade xs → times id (made_ids p xs) ≡ made_from id p xs
unfolding made_ids made_from
times-made_ids id p [] few = sym (no-made (nat_lt (maker_of id) p))
times-made_ids {K} id p (x ∷ xs) few =
    let own = map (id_by p) (range_with_len 0 x.held.made) in
    let split : times id (own ++ made_ids (p + 1) xs) ≡ times id own + times id (made_ids (p + 1) xs) = times-append id own (made_ids (p + 1) xs) in
    let rest = times-made_ids id (p + 1) xs (λ k y is. few (suc k) y is) in
    let small : 0 + x.held.made ≤ 4294967296 = (let h = few zero x refl in omega (arith, h)) in
    elim (same_or_not (maker_of id) p) [
      | inl same ↦ (let here = times-own id p 0 x.held.made same small ∙ within-all x.held.made (ordinal_of id) in
          let none = from-below id (p + 1) xs (omega (arith, same)) in
          omega (arith, split, here, rest, none, from-here id p x xs same))
      | inr ne ↦ (let none = times-others id p 0 x.held.made ne small in
          elim (lt_or (maker_of id) p) [
            | inl below ↦ omega (arith, split, none, rest, from-below id (p + 1) xs (omega (arith, below)), from-below id p (x ∷ xs) below)
            | inr least ↦ omega (arith, split, none, rest, from-later id p x xs (omega (arith, least, ne)))
          ])
    ]

-- A process made as many packets as it has ids given away.
pub length-made_ids : {K : Type 0} (p : ℕ) (xs : List (Process K)) → length (made_ids p xs) ≡ sum_by (λ x. x.held.made) xs
unfolding made_ids
length-made_ids p [] = refl
length-made_ids {K} p (x ∷ xs) = omega (
  arith,
  length-append (map (id_by p) (range_with_len 0 x.held.made)) (made_ids (p + 1) xs),
  length-map-range_with_len (id_by p) 0 x.held.made,
  length-made_ids (p + 1) xs,
  sum_by-cons (λ (y : Process K). y.held.made) x xs,
)

from-all : {K : Type 0} (id : ℕ) (xs : List (Process K)) → made_from id 0 xs ≡ made_count id xs
unfolding made_from
from-all id xs =
    let t : nat_lt (maker_of id) 0 ≡ false = grind (arith, nat_tests) in
    let z : maker_of id - 0 ≡ maker_of id = omega arith in
    rw (t, z) refl

-- an id stands among those that were made as often as it was
pub times-made : {K : Type 0} (id : ℕ) (xs : List (Process K)) → FewMade xs → times id (made_ids 0 xs) ≡ made_count id xs
times-made id xs few = times-made_ids id 0 xs few ∙ from-all id xs

-- where each id has one place, the totals add up
pub totals-add_up : {K : Type 0} (s : State K) → ((p : ℕ) (x : Process K) → slice_get s.kept.processes p ≡ Some x → x.held.made ≤ 4294967296) → OnePlaceCounted s → TotalsAddUp s
totals-add_up {K} s few place =
    let same : length (made_ids 0 s.kept.processes) ≡ length (all_places s) = length-times (made_ids 0 s.kept.processes) (all_places s)
    (λ id. (let p = place id in omega (arith, times-made id s.kept.processes few, times-all_places s id, p))) in
    omega (arith, same, length-made_ids 0 s.kept.processes, length-append (places s) (ids_dropped s.past.dropped (length s.kept.processes)))
