-- What holds of all that some passes pushed and popped holds of what each did.
use Rattle.std.proofs.Common.{◌≡◌, ◌≢◌, ℕ, zero, suc, ◌+◌, ◌<◌, ◌≤◌, true, false, Bool, List, [], ◌∷◌, ◌++◌, cond, get_or, length, map, nat_lt, sym, refl, ap, ◌∙◌, subst, arith, if◌then◌else◌, ◌==◌, All, eq-eqb, ne_eqb, eqb-true}
use Rattle.std.specs.Prelude.{sum_by}
use mathlib.Core.Option.{some}
use lib.ListN.{get_elem?}
use Rattle.std.proofs.lemmas.List.Elements.{All-cons, All-head, All-nil, All-tail, All-weaker}
use Rattle.std.proofs.lemmas.List.Sums.{get_or-le-sum_by, sum_by-cons}
use Rattle.flow_floor.specs.Made.{insert, merge}
use Rattle.flow_runner.specs.declared.line.LinePass.{LinePass}
use Rattle.flow_runner.specs.Crews.{merged}
use Rattle.flow_runner.specs.Fair.{placed}
use Rattle.flow_runner.specs.Lines.{puts_of, takes_of}
use Rattle.flow_runner.specs.Orders.{AreApart, ClosesInOrder, StandIn}
use Rattle.flow_runner.proofs.InOrder.{pops-of}

module _ (P : ℕ × ℕ → Type 0) where
  all-insert : (x : ℕ × ℕ) (ys : List (ℕ × ℕ)) → All P (insert x ys) → P x × All P ys
  all-insert x [] h = (All-head P x [] h, All-nil P)
  all-insert x (y ∷ ys) h = by (nat_lt x.0 y.0) (λ rest. all-insert x ys rest) h
    where
      by : (b : Bool) → (All P (insert x ys) → P x × All P ys) → All P (if b then x ∷ y ∷ ys else y ∷ insert x ys) → P x × All P (y ∷ ys)
      by true rest h = (All-head P x (y ∷ ys) h, All-tail P x (y ∷ ys) h)
      by false rest h = (let r = rest (All-tail P y (insert x ys) h) in (r.0, All-cons P y ys (All-head P y (insert x ys) h) r.1))

  all-merge : (xs ys : List (ℕ × ℕ)) → All P (merge xs ys) → All P xs × All P ys
  all-merge [] ys h = (All-nil P, h)
  all-merge (x ∷ xs) ys h = (let r = all-insert x (merge xs ys) h in let s = all-merge xs ys r.1 in (All-cons P x xs r.0 s.0, s.1))

  all-merged : (f : LinePass → List (ℕ × ℕ)) (ps : List LinePass) → All P (merged (map f ps)) → (i : ℕ) (d : LinePass) → i < length ps → All P (f (get_or ps i d))
  all-merged f [] h i d lt = absurd (omega (arith, lt))
  all-merged f (p ∷ []) h zero d lt = h
  all-merged f (p ∷ []) h (suc i) d lt = absurd (omega (arith, lt))
  all-merged f (p ∷ r ∷ ps) h zero d lt = (all-merge (f p) (merged (map f (r ∷ ps))) h).0
  all-merged f (p ∷ r ∷ ps) h (suc i) d lt = all-merged f (r ∷ ps) (all-merge (f p) (merged (map f (r ∷ ps))) h).1 i d (omega (arith, lt))

-- each process stands at its place
stand-from : (n : ℕ) (qs : List ℕ) → All (λ (s : ℕ × ℕ). (k : ℕ) × (s.0 ≡ n + k) × (get_elem? qs k ≡ some s.1)) (placed n qs)
stand-from n [] = All-nil (λ (s : ℕ × ℕ). (k : ℕ) × (s.0 ≡ n + k) × (get_elem? [] k ≡ some s.1))
stand-from n (q ∷ qs) = All-cons (λ (s : ℕ × ℕ). (k : ℕ) × (s.0 ≡ n + k) × (get_elem? (q ∷ qs) k ≡ some s.1)) (n, q) (placed (n + 1) qs) (0, (let e : n ≡ n + 0 = omega arith in e), refl)
    (All-weaker (λ (s : ℕ × ℕ). (k : ℕ) × (s.0 ≡ n + 1 + k) × (get_elem? qs k ≡ some s.1)) (λ (s : ℕ × ℕ). (k : ℕ) × (s.0 ≡ n + k) × (get_elem? (q ∷ qs) k ≡ some s.1))
    (λ s h. (suc h.0, (let e = h.1 in omega (arith, e)), h.2)) (placed (n + 1) qs) (stand-from (n + 1) qs))

stand : (qs : List ℕ) → StandIn qs (placed 0 qs)
stand qs = All-weaker (λ (s : ℕ × ℕ). (k : ℕ) × (s.0 ≡ 0 + k) × (get_elem? qs k ≡ some s.1)) (λ (s : ℕ × ℕ). get_elem? qs s.0 ≡ some s.1)
    (λ s h. ap (get_elem? qs) (let e = h.1 in let same : s.0 ≡ h.0 = omega (arith, e) in same) ∙ h.2) (placed 0 qs) (stand-from 0 qs)

-- how often a place is in a list
abbrev at : ℕ → ℕ × ℕ → ℕ
at k s = cond (s.0 == k) 1 0

at-insert : (k : ℕ) (x : ℕ × ℕ) (ys : List (ℕ × ℕ)) → sum_by (at k) (insert x ys) ≡ at k x + sum_by (at k) ys
at-insert k x [] = sum_by-cons (at k) x []
at-insert k x (y ∷ ys) = by (nat_lt x.0 y.0) (at-insert k x ys)
  where
    by : (b : Bool) → sum_by (at k) (insert x ys) ≡ at k x + sum_by (at k) ys → sum_by (at k) (if b then x ∷ y ∷ ys else y ∷ insert x ys) ≡ at k x + sum_by (at k) (y ∷ ys)
    by true rest = sum_by-cons (at k) x (y ∷ ys)
    by false rest = omega (arith, rest, sum_by-cons (at k) y (insert x ys), sum_by-cons (at k) y ys)

at-merge : (k : ℕ) (xs ys : List (ℕ × ℕ)) → sum_by (at k) (merge xs ys) ≡ sum_by (at k) xs + sum_by (at k) ys
at-merge k [] ys = omega arith
at-merge k (x ∷ xs) ys = omega (arith, at-insert k x (merge xs ys), at-merge k xs ys, sum_by-cons (at k) x xs)

-- a place is no more than once among placed ones, and not before the first
at-before : (k n : ℕ) (qs : List ℕ) → k < n → sum_by (at k) (placed n qs) ≡ 0
at-before k n [] lt = refl
at-before k n (q ∷ qs) lt =
    let none : at k (n, q) ≡ 0 = ap (λ b. cond b 1 0) (ne_eqb n k (λ e. omega (arith, lt, e))) in
    omega (arith, sum_by-cons (at k) (n, q) (placed (n + 1) qs), at-before k (n + 1) qs (omega (arith, lt)), none)

at-once : (k n : ℕ) (qs : List ℕ) → sum_by (at k) (placed n qs) ≤ 1
at-once k n [] = omega arith
at-once k n (q ∷ qs) = by (n == k) refl (at-once k (n + 1) qs)
  where
    by : (b : Bool) → (n == k) ≡ b → sum_by (at k) (placed (n + 1) qs) ≤ 1 → sum_by (at k) (placed n (q ∷ qs)) ≤ 1
    by true e rest = (let one : at k (n, q) ≡ 1 = ap (λ b. cond b 1 0) e in let is : n ≡ k = eqb-true n k e in
        omega (arith, sum_by-cons (at k) (n, q) (placed (n + 1) qs), one, at-before k (n + 1) qs (omega (arith, is))))
    by false e rest = (let none : at k (n, q) ≡ 0 = ap (λ b. cond b 1 0) e in omega (arith, sum_by-cons (at k) (n, q) (placed (n + 1) qs), none, rest))

module _ (f : LinePass → List (ℕ × ℕ)) (k : ℕ) where
  of-one : (ps : List LinePass) (i : ℕ) (d : LinePass) → i < length ps → sum_by (at k) (f (get_or ps i d)) ≤ sum_by (at k) (merged (map f ps))
  of-one [] i d lt = absurd (omega (arith, lt))
  of-one (p ∷ []) zero d lt = omega arith
  of-one (p ∷ []) (suc i) d lt = absurd (omega (arith, lt))
  of-one (p ∷ r ∷ ps) zero d lt = omega (arith, at-merge k (f p) (merged (map f (r ∷ ps))))
  of-one (p ∷ r ∷ ps) (suc i) d lt = omega (arith, at-merge k (f p) (merged (map f (r ∷ ps))), of-one (r ∷ ps) i d (omega (arith, lt)))

  of-two : (ps : List LinePass) (i j : ℕ) (d e : LinePass) → i < length ps → j < length ps → i ≢ j → sum_by (at k) (f (get_or ps i d)) + sum_by (at k) (f (get_or ps j e)) ≤ sum_by (at k) (merged (map f ps))
  of-two [] i j d e lt lt' other = absurd (omega (arith, lt))
  of-two (p ∷ []) i j d e lt lt' other = absurd (other (omega (arith, lt, lt')))
  of-two (p ∷ r ∷ ps) zero zero d e lt lt' other = absurd (other refl)
  of-two (p ∷ r ∷ ps) zero (suc j) d e lt lt' other = omega (arith, at-merge k (f p) (merged (map f (r ∷ ps))), of-one (r ∷ ps) j e (omega (arith, lt')))
  of-two (p ∷ r ∷ ps) (suc i) zero d e lt lt' other = omega (arith, at-merge k (f p) (merged (map f (r ∷ ps))), of-one (r ∷ ps) i d (omega (arith, lt)))
  of-two (p ∷ r ∷ ps) (suc i) (suc j) d e lt lt' other = omega (arith, at-merge k (f p) (merged (map f (r ∷ ps))), of-two (r ∷ ps) i j d e (omega (arith, lt)) (omega (arith, lt')) (λ same. other (ap suc same)))

-- Where all that is had is placed, no two have a place in common.
apart : (f : LinePass → List (ℕ × ℕ)) (ps : List LinePass) (qs : List ℕ) → merged (map f ps) ≡ placed 0 qs → (i j : ℕ) (d e : LinePass) → i < length ps → j < length ps → i ≢ j → AreApart (f (get_or ps i d)) (f (get_or ps j e))
apart f ps qs all i j d e lt lt' other m s m-lt n t n-lt same =
    let mine = f (get_or ps i d) in
    let theirs = f (get_or ps j e) in
    let k = (get_or mine m s).0 in
    let one : at k (get_or mine m s) ≡ 1 = ap (λ b. cond b 1 0) (eq-eqb k k refl) in
    let two : at k (get_or theirs n t) ≡ 1 = ap (λ b. cond b 1 0) (eq-eqb (get_or theirs n t).0 k (sym same)) in
    omega (arith, one, two, get_or-le-sum_by (at k) mine m s m-lt, get_or-le-sum_by (at k) theirs n t n-lt, of-two f k ps i j d e lt lt' other, ap (sum_by (at k)) all, at-once k 0 qs)

-- Of a line that was closed: what was popped as the k-th was pushed as the k-th, and no push or pop is that of two passes.
pub closes-in-order : ClosesInOrder
closes-in-order ps items (gone, takes, puts) i j d e lt lt' = (
  pops-of gone items (takes_of (get_or ps i d)) (puts_of (get_or ps j e)) (all-merged (λ (s : ℕ × ℕ). get_elem? gone s.0 ≡ some s.1) takes_of ps (subst (StandIn gone) (sym takes) (stand gone)) i d lt)
      (all-merged (λ (s : ℕ × ℕ). get_elem? (gone ++ items) s.0 ≡ some s.1) puts_of ps (subst (StandIn (gone ++ items)) (sym puts) (stand (gone ++ items))) j e lt'),
  λ other. (apart puts_of ps (gone ++ items) puts i j d e lt lt' other, apart takes_of ps gone takes i j d e lt lt' other),
)
