-- The sorted list of packets is a stable sort of them, and the only one.
use Rattle.std.proofs.Common.{◌≡◌, ℕ, zero, suc, ◌<◌, ◌≤◌, Bool, true, false, not, ◌&&◌, cond, List, [], ◌∷◌, length, get_or, refl, sym, ap, ◌∙◌, arith, add-one, Option, if◌then◌else◌}
use Rattle.std.specs.List.{filter}
use Rattle.std.specs.List.Sorted.{IsSortedBy, ties}
use Rattle.std.specs.Cmp.{IsStrictWeakOrder}
use Rattle.std.proofs.lemmas.Cmp.{nat_list_cmp_total}
use Rattle.std.proofs.lemmas.List.Sorted.{ranks_by, sorted_far}
use Rattle.flow_packet.specs.Tree.{Tree}
use Rattle.flow_packet.specs.Sorting.{sort_key, is_less, IsStableSort}
use Rattle.flow_sort.specs.Sorted.{put_in, stable_sort}
use Rattle.flow_sort.specs.SortLaws.{sort-same}
use Rattle.flow_sort.specs.Meanings.{IsTheStableSort}

-- The keys' order is a strict weak one.
pub less-order : (bytes : Option ℕ) → IsStrictWeakOrder (is_less bytes)
less-order bytes = ranks_by nat_list_cmp_total (sort_key bytes)

both-false : (a b : Bool) → not a && not b ≡ true → (a ≡ false) × (b ≡ false)
both-false true b e = cc
both-false false true e = cc
both-false false false e = (refl, refl)

module _ {X : Type 0} (lt : X → X → Bool) (o : IsStrictWeakOrder lt) where
  -- Packets that tie: neither is less.
  pub tie-parts : (x y : X) → ties lt x y ≡ true → (lt x y ≡ false) × (lt y x ≡ false)
  tie-parts x y e = both-false (lt x y) (lt y x) e

  pub tie-of : (x y : X) → lt x y ≡ false → lt y x ≡ false → ties lt x y ≡ true
  tie-of x y e f = rw (e, f) refl

  pub not-itself : (x : X) → lt x x ≡ false
  not-itself x = by (lt x x) refl
    where
      by : (b : Bool) → lt x x ≡ b → lt x x ≡ false
      by true e = o.one_way x x e
      by false e = e

  -- None of the list is less than x.
  abbrev pub NoLess : X → List X → Type 0
  NoLess x [] = Unit {0}
  NoLess x (y ∷ ys) = (lt y x ≡ false) × NoLess x ys

  -- None is less than one before it.
  abbrev pub IsUp : List X → Type 0
  IsUp [] = Unit {0}
  IsUp (x ∷ xs) = NoLess x xs × IsUp xs

  no-less-at : (x : X) (xs : List X) → ((k : ℕ) (d : X) → k < length xs → lt (get_or xs k d) x ≡ false) → NoLess x xs
  no-less-at x [] h = tt
  no-less-at x (y ∷ ys) h = (h 0 y (omega arith), no-less-at x ys (λ k d l. h (suc k) d (omega arith)))

  up-at : (xs : List X) → ((i j : ℕ) (d : X) → i ≤ j → j < length xs → lt (get_or xs j d) (get_or xs i d) ≡ false) → IsUp xs
  up-at [] h = tt
  up-at (x ∷ xs) h = (no-less-at x xs (λ k d l. h 0 (suc k) d (omega arith) (omega arith)), up-at xs (λ i j d l m. h (suc i) (suc j) d (omega arith) (omega arith)))

  -- A sorted list is so step by step.
  pub up-of : (xs : List X) → IsSortedBy lt xs → IsUp xs
  up-of xs s = up-at xs (sorted_far lt o xs s)

  next-up : (xs : List X) (k : ℕ) (d : X) → IsUp xs → suc k < length xs → lt (get_or xs (suc k) d) (get_or xs k d) ≡ false
  next-up [] k d u l = absurd (omega arith)
  next-up (x ∷ []) k d u l = absurd (omega arith)
  next-up (x ∷ y ∷ ys) zero d u l = u.0.0
  next-up (x ∷ y ∷ ys) (suc k) d u l = next-up (y ∷ ys) k d u.1 (omega arith)

  -- and the other way round
  pub sorted-of : (xs : List X) → IsUp xs → IsSortedBy lt xs
  sorted-of xs u k d low high =
      let h : suc k < length xs = omega (arith, high) in
      rw add-one (next-up xs k d u h)

  met-by : (x z u : X) (us : List X) (w : X) (ws : List X) (b : Bool) → ties lt x u ≡ b → lt u z ≡ false → cond b (u ∷ filter (ties lt x) us) (filter (ties lt x) us) ≡ w ∷ ws
      → (filter (ties lt x) us ≡ w ∷ ws → lt x z ≡ false) → lt x z ≡ false
  met-by x z u us w ws true e n f rest = o.chain x u z (tie-parts x u e).0 n
  met-by x z u us w ws false e n f rest = rest f

  met : (x z : X) (us : List X) (w : X) (ws : List X) → NoLess z us → filter (ties lt x) us ≡ w ∷ ws → lt x z ≡ false
  met x z [] w ws n f = absurd (cc)
  met x z (u ∷ us) w ws n f = met-by x z u us w ws (ties lt x u) refl n.0 f (met x z us w ws n.1)

  own : (x : X) (xs : List X) → filter (ties lt x) (x ∷ xs) ≡ x ∷ filter (ties lt x) xs
  own x xs = let e = tie-of x x (not-itself x) (not-itself x) in rw e refl

  firsts : (y z : X) (ys zs : List X) → NoLess y ys → NoLess z zs → ((x : X) → filter (ties lt x) (y ∷ ys) ≡ filter (ties lt x) (z ∷ zs)) → y ≡ z
  firsts y z ys zs ny nz same =
      let a : lt y z ≡ false = met y z (z ∷ zs) y (filter (ties lt y) ys) (not-itself z, nz) (sym (same y) ∙ own y ys) in
      let b : lt z y ≡ false = met z y (y ∷ ys) z (filter (ties lt z) zs) (not-itself y, ny) (same z ∙ own z zs) in
      let t : ties lt y z ≡ true = tie-of y z a b in
      let e : y ∷ filter (ties lt y) ys ≡ z ∷ filter (ties lt y) zs = sym (own y ys) ∙ same y ∙ rw t refl in
      cc

  tails : (y : X) (fy fz : List X) (b : Bool) → cond b (y ∷ fy) fy ≡ cond b (y ∷ fz) fz → fy ≡ fz
  tails y fy fz true e = cc
  tails y fy fz false e = e

  -- Two lists that ascend, with the same packets of each key in the same order, are one.
  pub one-order : (ys zs : List X) → IsUp ys → IsUp zs → ((x : X) → filter (ties lt x) ys ≡ filter (ties lt x) zs) → ys ≡ zs
  one-order [] [] u v same = refl
  one-order [] (z ∷ zs) u v same = absurd (let e : [] ≡ z ∷ filter (ties lt z) zs = same z ∙ own z zs in cc)
  one-order (y ∷ ys) [] u v same = absurd (let e : y ∷ filter (ties lt y) ys ≡ [] = sym (own y ys) ∙ same y in cc)
  one-order (y ∷ ys) (z ∷ zs) u v same =
      let e : y ≡ z = firsts y z ys zs u.0 v.0 same in
      let rest : (x : X) → filter (ties lt x) ys ≡ filter (ties lt x) zs =
      λ x. tails y (filter (ties lt x) ys) (filter (ties lt x) zs) (ties lt x y) (same x ∙ ap (λ w. filter (ties lt x) (w ∷ zs)) (sym e)) in
      let more = one-order ys zs u.1 v.1 rest in
      λ i. e i ∷ more i

-- A packet more

module _ (bytes : Option ℕ) where
  abbrev less : Tree → Tree → Bool
  less = is_less bytes

  no-less-put : (x t : Tree) (us : List Tree) → less t x ≡ false → NoLess less (less-order bytes) x us → NoLess less (less-order bytes) x (put_in bytes t us)
  no-less-put x t [] e n = (e, tt)
  no-less-put x t (u ∷ us) e n =
      elim (less u t) as (λ b. NoLess less (less-order bytes) x (if b then u ∷ put_in bytes t us else t ∷ u ∷ us)) [
        | true ↦ (n.0, no-less-put x t us e n.1)
        | false ↦ (e, n)
      ]

  no-less-chain : (t u : Tree) (us : List Tree) → less u t ≡ false → NoLess less (less-order bytes) u us → NoLess less (less-order bytes) t us
  no-less-chain t u [] e n = tt
  no-less-chain t u (v ∷ vs) e n = ((less-order bytes).chain v u t n.0 e, no-less-chain t u vs e n.1)

  up-put : (t : Tree) (us : List Tree) → IsUp less (less-order bytes) us → IsUp less (less-order bytes) (put_in bytes t us)
  up-put t [] up = (tt, tt)
  up-put t (u ∷ us) up = by (less u t) refl (up-put t us up.1)
    where
      by : (b : Bool) → less u t ≡ b → IsUp less (less-order bytes) (put_in bytes t us) → IsUp less (less-order bytes) (if b then u ∷ put_in bytes t us else t ∷ u ∷ us)
      by true e more = (no-less-put u t us ((less-order bytes).one_way u t e) up.0, more)
      by false e more = ((e, no-less-chain t u us e up.0), up)

  -- The sorted list ascends.
  pub up-sort : (ts : List Tree) → IsUp less (less-order bytes) (stable_sort bytes ts)
  up-sort [] = tt
  up-sort (t ∷ ts) = up-put t (stable_sort bytes ts) (up-sort ts)

  swap-by : (x t u : Tree) (fs : List Tree) (a b : Bool) → (a ≡ true → b ≡ true → ⊥) → cond a (u ∷ cond b (t ∷ fs) fs) (cond b (t ∷ fs) fs) ≡ cond b (t ∷ cond a (u ∷ fs) fs) (cond a (u ∷ fs) fs)
  swap-by x t u fs true true n = absurd (n refl refl)
  swap-by x t u fs true false n = refl
  swap-by x t u fs false true n = refl
  swap-by x t u fs false false n = refl

  apart : (x t u : Tree) → less u t ≡ true → ties less x u ≡ true → ties less x t ≡ true → ⊥
  apart x t u e a b =
      let p : less u t ≡ false = (less-order bytes).chain u x t (tie-parts less (less-order bytes) x u a).1 (tie-parts less (less-order bytes) x t b).0 in
      let never : true ≡ false = sym e ∙ p in
      cc

  filter-put : (x t : Tree) (us : List Tree) → filter (ties less x) (put_in bytes t us) ≡ filter (ties less x) (t ∷ us)
  filter-put x t [] = refl
  filter-put x t (u ∷ us) = by (less u t) refl (filter-put x t us)
    where
      by : (b : Bool) → less u t ≡ b → filter (ties less x) (put_in bytes t us) ≡ filter (ties less x) (t ∷ us) → filter (ties less x) (if b then u ∷ put_in bytes t us else t ∷ u ∷ us) ≡ filter (ties less x) (t ∷ u ∷ us)
      by true e more =
          ap (λ fs. cond (ties less x u) (u ∷ fs) fs) more ∙ swap-by x t u (filter (ties less x) us) (ties less x u) (ties less x t) (apart x t u e)
      by false e more = refl

  -- The sorted list keeps the order of each key.
  pub stable-sort : (ts : List Tree) (x : Tree) → filter (ties less x) (stable_sort bytes ts) ≡ filter (ties less x) ts
  stable-sort [] x = refl
  stable-sort (t ∷ ts) x = filter-put x t (stable_sort bytes ts) ∙ ap (λ fs. cond (ties less x t) (t ∷ fs) fs) (stable-sort ts x)

  -- A stable sort is the sorted list.
  pub only-sort : (before after : List Tree) → IsStableSort bytes before after → after ≡ stable_sort bytes before
  only-sort before after s =
      one-order less (less-order bytes) after (stable_sort bytes before) (up-of less (less-order bytes) after s.ascending) (up-sort before) (λ x. s.stable x ∙ sym (stable-sort before x))

-- It is a stable sort, and the only one.
pub the-stable-sort : IsTheStableSort
the-stable-sort bytes before = (
  record {
    same = sort-same bytes before;
    ascending = sorted-of (is_less bytes) (less-order bytes) (stable_sort bytes before) (up-sort bytes before);
    stable = stable-sort bytes before;
  },
  only-sort bytes before,
)
