-- What the passes of all lines pushed together, when one of them pushes a process more.
use Rattle.std.proofs.Common.{◌≡◌, ℕ, zero, suc, ◌+◌, ◌<◌, ◌∷◌, ◌++◌, Bool, true, false, cond, nat_lt, nat_eq, List, [], get_or, map, set, length, refl, arith, ap, ◌∙◌}
use Rattle.std.proofs.lemmas.Bool.Decides.{nat_tests}
use Rattle.std.specs.Prelude.{sum_by}
use Rattle.std.proofs.lemmas.List.Sums.{sum_by-append, sum_by-cons}
use Rattle.flow_runner.specs.declared.line.LinePass.{LinePass}
use Rattle.flow_runner.specs.Fair.{times}
use Rattle.flow_runner.specs.Lines.{pushes_of}
use Rattle.flow_runner.specs.Posts.{once_below, passes_in, PushesEach}
use Rattle.flow_runner.proofs.Lined.{times-append}

-- A sum over a list of which one member was set.
sum-set : {X : Type 0} (f : X → ℕ) (xs : List X) (i : ℕ) (x d : X) → i < length xs → sum_by f (set xs i x) + f (get_or xs i d) ≡ sum_by f xs + f x
sum-set f [] i x d lt = absurd (omega (arith, lt))
sum-set f (y ∷ ys) zero x d lt = omega (arith, sum_by-cons f x ys, sum_by-cons f y ys)
sum-set f (y ∷ ys) (suc i) x d lt = let rest = sum-set f ys i x d (omega (arith, lt)) in omega (arith, rest, sum_by-cons f y (set ys i x), sum_by-cons f y ys)

-- Of one process more, that one is below.
once-more : (n q : ℕ) → once_below (n + 1) q ≡ once_below n q + times q (n ∷ [])
once-more n q = by (nat_lt q n) (nat_lt q (n + 1)) (nat_eq n q) refl refl refl
  where
    by : (a b c : Bool) → nat_lt q n ≡ a → nat_lt q (n + 1) ≡ b → nat_eq n q ≡ c → cond b 1 0 ≡ cond a 1 0 + (0 + cond c 1 0)
    by true true true e f h = absurd (grind (arith, nat_tests))
    by true true false e f h = refl
    by true false c e f h = absurd (grind (arith, nat_tests))
    by false true true e f h = refl
    by false true false e f h = absurd (grind (arith, nat_tests))
    by false false true e f h = absurd (grind (arith, nat_tests))
    by false false false e f h = refl

-- Of no processes none was pushed.
pub each-none : (ps : List LinePass) → PushesEach 0 ps ps
each-none ps q = by (nat_lt q 0) refl
  where
    by : (b : Bool) → nat_lt q 0 ≡ b → sum_by (λ p. times q (pushes_of p)) ps ≡ sum_by (λ p. times q (pushes_of p)) ps + cond b 1 0
    by true e = absurd (grind (arith, nat_tests))
    by false e = omega arith

-- One pass pushed the next process.
pub each-more : (ps qs : List LinePass) (n i : ℕ) (p d : LinePass) → PushesEach n ps qs → i < length qs → pushes_of p ≡ pushes_of (get_or qs i d) ++ n ∷ [] → PushesEach (n + 1) ps (set qs i p)
each-more ps qs n i p d each within pushed q =
    let f : LinePass → ℕ = λ x. times q (pushes_of x) in
    let more : f p ≡ f (get_or qs i d) + times q (n ∷ []) = ap (times q) pushed ∙ times-append q (pushes_of (get_or qs i d)) (n ∷ []) in
    omega (arith, sum-set f qs i p d within, more, each q, once-more n q)

-- Where those of one row pushed each process once more, those of all rows did.
pub each-of-rows : {R : Type 0} (f : R → List LinePass) (rows : List R) (old new : R) (n : ℕ) → PushesEach n (f old) (f new) → PushesEach n (passes_in (map f (rows ++ old ∷ []))) (passes_in (map f (rows ++ new ∷ [])))
each-of-rows f [] old new n each q =
    let count : LinePass → ℕ = λ p. times q (pushes_of p) in omega (arith, each q, sum_by-append count (f old) [], sum_by-append count (f new) [])
each-of-rows f (row ∷ rows) old new n each q =
    let count : LinePass → ℕ = λ p. times q (pushes_of p) in
    let rest = each-of-rows f rows old new n each q in
    omega (arith, rest, sum_by-append count (f row) (passes_in (map f (rows ++ old ∷ []))), sum_by-append count (f row) (passes_in (map f (rows ++ new ∷ []))))
