-- The laws of the ready line's order.
use Rattle.std.proofs.Common.{◌≡◌, ◌≢◌, ℕ, zero, suc, ◌+◌, ◌<◌, ◌≤◌, true, false, Bool, List, [], ◌∷◌, ◌++◌, get_or, sym, refl, ap, ◌∙◌, subst, arith, if◌then◌else◌, ◌==◌, All, eqb-true}
use mathlib.Core.Option.{some, some-injective, some-ne-none}
use lib.ListN.{get_elem?}
use Rattle.std.proofs.lemmas.List.Elements.{All-cons, All-nil, All-weaker}
use Rattle.flow_runner.specs.Fair.{placed_by}
use Rattle.flow_runner.specs.Orders.{AreApart, OneKnowsAll, PlacesAreOnes, PopsArePushes, PopsOf, EachIsInOrder, Rise, StandIn}
use Rattle.flow_runner.proofs.Fairs.{alone}
use Rattle.flow_runner.proofs.Places.{placed_by-from, placed_by-rise}

-- each stands at its place, counted from n
abbrev StandFrom : ℕ → List ℕ → List (ℕ × ℕ) → Type 0
StandFrom n qs places = All (λ (s : ℕ × ℕ). (k : ℕ) × (s.0 ≡ n + k) × (get_elem? qs k ≡ some s.1)) places

stand-from : (j n : ℕ) (by qs : List ℕ) → StandFrom n qs (placed_by j n by qs)
stand-from j n [] qs = All-nil (λ (s : ℕ × ℕ). (k : ℕ) × (s.0 ≡ n + k) × (get_elem? qs k ≡ some s.1))
stand-from j n (i ∷ by) [] = All-nil (λ (s : ℕ × ℕ). (k : ℕ) × (s.0 ≡ n + k) × (get_elem? [] k ≡ some s.1))
stand-from j n (i ∷ by) (q ∷ qs) = go (j == i)
    (All-weaker (λ (s : ℕ × ℕ). (k : ℕ) × (s.0 ≡ n + 1 + k) × (get_elem? qs k ≡ some s.1)) (λ (s : ℕ × ℕ). (k : ℕ) × (s.0 ≡ n + k) × (get_elem? (q ∷ qs) k ≡ some s.1))
    (λ s h. (suc h.0, (let e = h.1 in omega (arith, e)), h.2)) (placed_by j (n + 1) by qs) (stand-from j (n + 1) by qs))
  where
    go : (b : Bool) → StandFrom n (q ∷ qs) (placed_by j (n + 1) by qs) → StandFrom n (q ∷ qs) (if b then (n, q) ∷ placed_by j (n + 1) by qs else placed_by j (n + 1) by qs)
    go true h = All-cons (λ (s : ℕ × ℕ). (k : ℕ) × (s.0 ≡ n + k) × (get_elem? (q ∷ qs) k ≡ some s.1)) (n, q) (placed_by j (n + 1) by qs) (0, (let e : n ≡ n + 0 = omega arith in e), refl) h
    go false h = h

stand-by : (j : ℕ) (by qs : List ℕ) → StandIn qs (placed_by j 0 by qs)
stand-by j by qs = All-weaker (λ (s : ℕ × ℕ). (k : ℕ) × (s.0 ≡ 0 + k) × (get_elem? qs k ≡ some s.1)) (λ (s : ℕ × ℕ). get_elem? qs s.0 ≡ some s.1) (λ s h. ap (get_elem? qs) (let e = h.1 in let same : s.0 ≡ h.0 = omega (arith, e) in same) ∙ h.2) (placed_by j 0 by qs) (stand-from j 0 by qs)

-- all places from n on are apart from one before
apart-below : (n m : ℕ) (q : ℕ) (ys : List (ℕ × ℕ)) → n < m → All (λ (s : ℕ × ℕ). m ≤ s.0) ys → All (λ (t : ℕ × ℕ). n ≢ t.0) ys
apart-below n m q ys lt from = All-weaker (λ (s : ℕ × ℕ). m ≤ s.0) (λ (t : ℕ × ℕ). n ≢ t.0) (λ s le same. omega (arith, lt, le, same)) ys from

apart-cons : (xs ys : List (ℕ × ℕ)) (s : ℕ × ℕ) → All (λ (t : ℕ × ℕ). t.0 ≢ s.0) xs → AreApart xs ys → AreApart xs (s ∷ ys)
apart-cons xs ys s one rest k d lt = All-cons (λ (t : ℕ × ℕ). (get_or xs k d).0 ≢ t.0) s ys (one k d lt) (rest k d lt)

-- What two passes have has no place in common.
apart-by : (i j n : ℕ) (by qs : List ℕ) → i ≢ j → AreApart (placed_by i n by qs) (placed_by j n by qs)
apart-by i j n [] qs other = All-nil (λ (s : ℕ × ℕ). All (λ (t : ℕ × ℕ). s.0 ≢ t.0) [])
apart-by i j n (h ∷ by) [] other = All-nil (λ (s : ℕ × ℕ). All (λ (t : ℕ × ℕ). s.0 ≢ t.0) [])
apart-by i j n (h ∷ by) (q ∷ qs) other = go (i == h) (j == h) refl refl (apart-by i j (n + 1) by qs other)
  where
    go : (a b : Bool) → (i == h) ≡ a → (j == h) ≡ b → AreApart (placed_by i (n + 1) by qs) (placed_by j (n + 1) by qs)
        → AreApart (if a then (n, q) ∷ placed_by i (n + 1) by qs else placed_by i (n + 1) by qs) (if b then (n, q) ∷ placed_by j (n + 1) by qs else placed_by j (n + 1) by qs)
    go true true e f rest = absurd (other (eqb-true i h e ∙ sym (eqb-true j h f)))
    go true false e f rest = All-cons (λ (s : ℕ × ℕ). All (λ (t : ℕ × ℕ). s.0 ≢ t.0) (placed_by j (n + 1) by qs)) (n, q) (placed_by i (n + 1) by qs) (apart-below n (n + 1) q (placed_by j (n + 1) by qs) (omega arith) (placed_by-from j (n + 1) by qs)) rest
    go false true e f rest = apart-cons (placed_by i (n + 1) by qs) (placed_by j (n + 1) by qs) (n, q)
        (All-weaker (λ (s : ℕ × ℕ). n + 1 ≤ s.0) (λ (t : ℕ × ℕ). t.0 ≢ n) (λ s le same. omega (arith, le, same)) (placed_by i (n + 1) by qs) (placed_by-from i (n + 1) by qs)) rest
    go false false e f rest = rest

-- A place at which one pass pushed or popped is no other pass's.
pub places-are-ones : PlacesAreOnes
places-are-ones gone items views i j u v f at at' other = (
  subst (λ (l : List (ℕ × ℕ) × List (ℕ × ℕ)). AreApart l.0 l.1) (λ x. (sym (f.put i u at) x, sym (f.put j v at') x)) (apart-by i j 0 f.pushers (gone ++ items) other),
  subst (λ (l : List (ℕ × ℕ) × List (ℕ × ℕ)). AreApart l.0 l.1) (λ x. (sym (f.taken i u at) x, sym (f.taken j v at') x)) (apart-by i j 0 f.poppers gone other),
)

-- What a pass pushed stands at ascending places of all that was pushed, and what it popped at such places of all that was popped.
pub each-is-in-order : EachIsInOrder
each-is-in-order v gone items (views, j, f, at) = (
  subst (StandIn (gone ++ items)) (sym (f.put j v at)) (stand-by j f.pushers (gone ++ items)),
  subst Rise (sym (f.put j v at)) (placed_by-rise j 0 f.pushers (gone ++ items)),
  subst (StandIn gone) (sym (f.taken j v at)) (stand-by j f.poppers gone),
  subst Rise (sym (f.taken j v at)) (placed_by-rise j 0 f.poppers gone),
)

at-front : (xs ys : List ℕ) (k q : ℕ) → get_elem? xs k ≡ some q → get_elem? (xs ++ ys) k ≡ some q
at-front [] ys k q at = absurd (some-ne-none q (sym at))
at-front (x ∷ xs) ys zero q at = at
at-front (x ∷ xs) ys (suc k) q at = at-front xs ys k q at

-- What stands at a place of all that was popped stands there of all that was pushed.
pub pops-of : (gone items : List ℕ) (takes puts : List (ℕ × ℕ)) → StandIn gone takes → StandIn (gone ++ items) puts → PopsOf takes puts
pops-of gone items takes puts popped pushed =
    All-weaker (λ (s : ℕ × ℕ). get_elem? gone s.0 ≡ some s.1) (λ (s : ℕ × ℕ). All (λ (t : ℕ × ℕ). s.0 ≡ t.0 → s.1 ≡ t.1) puts)
    (λ s here. All-weaker (λ (t : ℕ × ℕ). get_elem? (gone ++ items) t.0 ≡ some t.1) (λ (t : ℕ × ℕ). s.0 ≡ t.0 → s.1 ≡ t.1)
    (λ t there same. some-injective s.1 t.1 (sym (at-front gone items s.0 s.1 here) ∙ ap (get_elem? (gone ++ items)) same ∙ there)) puts pushed) takes popped

-- What was popped as the k-th was pushed as the k-th, by whichever passes.
pub pops-are-pushes : PopsArePushes
pops-are-pushes gone items views i j u v f at at' =
    let mine = each-is-in-order u gone items (views, i, f, at) in
    let theirs = each-is-in-order v gone items (views, j, f, at') in
    pops-of gone items u.taken v.put mine.2 theirs.0

-- The only pass knows all, in order.
pub one-knows-all : OneKnowsAll
one-knows-all v gone items was all = alone v gone items was all
