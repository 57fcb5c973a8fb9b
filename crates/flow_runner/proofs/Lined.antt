-- Lists of passes.
use Rattle.std.proofs.Common.{◌≡◌, ℕ, ◌+◌, List, [], ◌∷◌, ◌++◌, Bool, true, false, cond, if◌then◌else◌, nat_lt, ◌==◌, ◌∙◌, map, ap, sym, arith}
use Rattle.std.specs.Prelude.{sum_by}
use Rattle.std.proofs.lemmas.List.Sums.{sum_by-append, sum_by-cons, sum_by_push}
use Rattle.flow_floor.specs.Made.{insert, merge}
use Rattle.flow_floor.proofs.Crews.{all-push}
use Rattle.flow_floor.proofs.Lists.{All-front, All-last}
use Rattle.flow_runner.specs.declared.line.Line.{Line}
use Rattle.flow_runner.specs.declared.line.LinePass.{LinePass}
use Rattle.flow_runner.specs.Crews.{merged}
use Rattle.flow_runner.specs.Fair.{times}
use Rattle.flow_runner.specs.Lines.{IsPassAt, IsAlone, AreAllPasses, LeaveInOrder, parts_of, processes_at, pushes_of, pops_of, puts_of, takes_of}
use Rattle.flow_runner.proofs.Places.{placed-processes}

-- A sum over a list with one member more.
pub sum-push : {X : Type 0} (f : X → ℕ) (xs : List X) (x : X) → sum_by f (xs ++ x ∷ []) ≡ sum_by f xs + f x
sum-push f xs x = sum_by_push f xs x

-- The sum stays where one takes in another.
pub sum-pair : {X : Type 0} (f : X → ℕ) (xs : List X) (a b c : X) → f c ≡ f b + f a → sum_by f (xs ++ c ∷ []) ≡ sum_by f ((xs ++ a ∷ []) ++ b ∷ [])
sum-pair f xs a b c both = let p = sum-push f xs a in let q = sum-push f (xs ++ a ∷ []) b in let r = sum-push f xs c in omega (arith, p, q, r, both)

-- What all have in the order of the places stays where one takes in another.
pub merged-pair : {X : Type 0} (f : X → List (ℕ × ℕ)) (xs : List X) (a b c : X) → f c ≡ merge (f a) (f b) → merged (map f (xs ++ c ∷ [])) ≡ merged (map f ((xs ++ a ∷ []) ++ b ∷ []))
merged-pair f [] a b c both = both
merged-pair f (x ∷ []) a b c both = ap (merge (f x)) both
merged-pair f (x ∷ y ∷ xs) a b c both = ap (merge (f x)) (merged-pair f (y ∷ xs) a b c both)

-- How often a number stands in two lists together.
pub times-append : (q : ℕ) (xs ys : List ℕ) → times q (xs ++ ys) ≡ times q xs + times q ys
times-append q xs ys = sum_by-append (λ (y : ℕ). cond (y == q) 1 0) xs ys

times-cons : (q x : ℕ) (xs : List ℕ) → times q (x ∷ xs) ≡ cond (x == q) 1 0 + times q xs
times-cons q x xs = sum_by-cons (λ (y : ℕ). cond (y == q) 1 0) x xs

times-insert : (q : ℕ) (x : ℕ × ℕ) (ys : List (ℕ × ℕ)) → times q (processes_at (insert x ys)) ≡ cond (x.1 == q) 1 0 + times q (processes_at ys)
times-insert q x [] = times-cons q x.1 []
times-insert q x (y ∷ ys) = by (nat_lt x.0 y.0) (times-insert q x ys)
  where
    by : (b : Bool) → times q (processes_at (insert x ys)) ≡ cond (x.1 == q) 1 0 + times q (processes_at ys) → times q (processes_at (if b then x ∷ y ∷ ys else y ∷ insert x ys)) ≡ cond (x.1 == q) 1 0 + times q (processes_at (y ∷ ys))
    by true rest = times-cons q x.1 (processes_at (y ∷ ys))
    by false rest = omega (arith, rest, times-cons q y.1 (processes_at (insert x ys)), times-cons q y.1 (processes_at ys))

times-merge : (q : ℕ) (xs ys : List (ℕ × ℕ)) → times q (processes_at (merge xs ys)) ≡ times q (processes_at xs) + times q (processes_at ys)
times-merge q [] ys = omega arith
times-merge q (x ∷ xs) ys = omega (arith, times-insert q x (merge xs ys), times-merge q xs ys, times-cons q x.1 (processes_at xs))

-- How often a number stands in what all have.
times-merged : (q : ℕ) (f : LinePass → List (ℕ × ℕ)) (ps : List LinePass) → times q (processes_at (merged (map f ps))) ≡ sum_by (λ p. times q (processes_at (f p))) ps
times-merged q f [] = omega arith
times-merged q f (p ∷ []) = omega (arith, sum_by-cons (λ x. times q (processes_at (f x))) p [])
times-merged q f (p ∷ r ∷ ps) = omega (arith, times-merge q (f p) (merged (map f (r ∷ ps))), times-merged q f (r ∷ ps), sum_by-cons (λ x. times q (processes_at (f x))) p (r ∷ ps))

-- Where what all pushed is what they popped and behind that these, it is so of each process.
pub each-leaves : (ps : List LinePass) (items : List ℕ) → LeaveInOrder ps items → (q : ℕ) → sum_by (λ p. times q (pushes_of p)) ps ≡ sum_by (λ p. times q (pops_of p)) ps + times q items
each-leaves ps items (gone, takes, puts) q =
    let pushed = sym (times-merged q puts_of ps) ∙ ap (λ l. times q (processes_at l)) puts ∙ ap (times q) (placed-processes 0 (gone ++ items)) in
    let popped = sym (times-merged q takes_of ps) ∙ ap (λ l. times q (processes_at l)) takes ∙ ap (times q) (placed-processes 0 gone) in omega (arith, pushed, popped, times-append q gone items)

-- The last two of all passes are passes of the line.
pub both-passes : (line : Line) (xs : List LinePass) (a b : LinePass) → AreAllPasses line ((xs ++ a ∷ []) ++ b ∷ []) → IsPassAt line a × IsPassAt line b
both-passes line xs a b h = (All-last (IsPassAt line) xs a (All-front (IsPassAt line) (xs ++ a ∷ []) b h.0), All-last (IsPassAt line) (xs ++ a ∷ []) b h.0)

-- Where two passes are joined to one, those are all passes still.
pub all-pair : (line : Line) (xs : List LinePass) (a b c : LinePass) → IsPassAt line c → parts_of c ≡ parts_of b + parts_of a → AreAllPasses line ((xs ++ a ∷ []) ++ b ∷ []) → AreAllPasses line (xs ++ c ∷ [])
all-pair line xs a b c is both h = (all-push (IsPassAt line) xs c (All-front (IsPassAt line) xs a (All-front (IsPassAt line) (xs ++ a ∷ []) b h.0)) is, sum-pair parts_of xs a b c both ∙ h.1)

-- The last of them is the only one.
pub all-one : (line : Line) (a : LinePass) → AreAllPasses line (a ∷ []) → IsPassAt line a × IsAlone a
all-one line a h = (All-last (IsPassAt line) [] a h.0, omega (arith, h.1, sum-push parts_of [] a))
