-- What bodies remember of one turn more.
use Rattle.std.proofs.Common.{◌≡◌, ◌≢◌, ℕ, ◌+◌, Bool, true, false, cond, List, [], ◌∷◌, ◌++◌, length, map, nat_eq, refl, ap, sym, ◌∙◌, arith, append-nil, append_assoc}
use Rattle.std.proofs.lemmas.Bool.Decides.{nat_tests}
use Rattle.flow_model.specs.Events.{Event, Starts, seen_by}
use Rattle.flow_machine.specs.Logs.{Logged, stamps_of, levels_of}
use Rattle.flow_machine.specs.Nets.{levels_told}

-- The stamps of a process in two logs are those in the first and then those in the second.
pub stamps_of-append : (p n : ℕ) (log more : List Logged) → stamps_of p n (log ++ more) ≡ stamps_of p n log ++ stamps_of p (n + length log) more
stamps_of-append p n [] more = ap (λ m. stamps_of p m more) (let h : n ≡ n + 0 = omega arith in h)
stamps_of-append p n (turn ∷ log) more = by (nat_eq turn.process p) (stamps_of-append p (n + 1) log more ∙ ap (λ m. stamps_of p (n + 1) log ++ stamps_of p m more) (let h : n + 1 + length log ≡ n + length (turn ∷ log) = omega arith in h))
  where
    by : (b : Bool) → stamps_of p (n + 1) (log ++ more) ≡ stamps_of p (n + 1) log ++ stamps_of p (n + length (turn ∷ log)) more
        → cond b (n ∷ stamps_of p (n + 1) (log ++ more)) (stamps_of p (n + 1) (log ++ more)) ≡ cond b (n ∷ stamps_of p (n + 1) log) (stamps_of p (n + 1) log) ++ stamps_of p (n + length (turn ∷ log)) more
    by true h = ap (λ xs. n ∷ xs) h
    by false h = h

-- The same of its level numbers.
pub levels_of-append : (p n : ℕ) (log more : List Logged) → levels_of p n (log ++ more) ≡ levels_of p n log ++ levels_of p (n + length log) more
levels_of-append p n [] more = ap (λ m. levels_of p m more) (let h : n ≡ n + 0 = omega arith in h)
levels_of-append p n (turn ∷ log) more = by (nat_eq turn.process p) (levels_of-append p (n + 1) log more ∙ ap (λ m. levels_of p (n + 1) log ++ levels_of p m more) (let h : n + 1 + length log ≡ n + length (turn ∷ log) = omega arith in h))
  where
    told : List (ℕ × ℕ)
    told = map (λ (level : ℕ). let t : ℕ × ℕ = (n, level) in t) turn.seen

    by : (b : Bool) → levels_of p (n + 1) (log ++ more) ≡ levels_of p (n + 1) log ++ levels_of p (n + length (turn ∷ log)) more
        → cond b (told ++ levels_of p (n + 1) (log ++ more)) (levels_of p (n + 1) (log ++ more)) ≡ cond b (told ++ levels_of p (n + 1) log) (levels_of p (n + 1) log) ++ levels_of p (n + length (turn ∷ log)) more
    by true h = ap (λ xs. told ++ xs) h ∙ sym (append_assoc told (levels_of p (n + 1) log) (levels_of p (n + length (turn ∷ log)) more))
    by false h = h

-- a turn of p is one stamp more of p, and none of others
pub stamps-own : (p n : ℕ) (seen : List ℕ) → stamps_of p n (record { process = p; seen = seen } ∷ []) ≡ n ∷ []
stamps-own p n seen = let t : nat_eq p p ≡ true = grind (arith, nat_tests) in rw t refl

-- A turn of another process gives it no stamp.
pub stamps-other : (q p n : ℕ) (seen : List ℕ) → q ≢ p → stamps_of q n (record { process = p; seen = seen } ∷ []) ≡ []
stamps-other q p n seen other = let t : nat_eq p q ≡ false = grind (arith, nat_tests) in rw t refl

-- A turn gives its process the level number that it was told.
pub levels-own : (p n : ℕ) (e : Event) → levels_of p n (record { process = p; seen = seen_by e } ∷ []) ≡ levels_told e n
levels-own p n e = let t : nat_eq p p ≡ true = grind (arith, nat_tests) in rw t (append-nil (map (λ (level : ℕ). let t : ℕ × ℕ = (n, level) in t) (seen_by e)) ∙ told e)
  where
    told : (e : Event) → map (λ (level : ℕ). let t : ℕ × ℕ = (n, level) in t) (seen_by e) ≡ levels_told e n
    told Starts = refl
    told e = refl

-- A turn of another process gives it no level number.
pub levels-other : (q p n : ℕ) (seen : List ℕ) → q ≢ p → levels_of q n (record { process = p; seen = seen } ∷ []) ≡ []
levels-other q p n seen other = let t : nat_eq p q ≡ false = grind (arith, nat_tests) in rw t refl
