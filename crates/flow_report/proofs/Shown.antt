-- What a net keeps of a state that it stands for: its processes, and how many packets they dropped.
use Rattle.std.proofs.Common.{◌≡◌, ℕ, zero, suc, ◌+◌, ◌-◌, ◌^◌, ◌<◌, Bool, List, [], ◌∷◌, ◌++◌, map, length, min, refl, ap, ◌∙◌, arith, length-append, ◌&&◌, ◌||◌}
use Rattle.std.specs.Prelude.{sum_by}
use Rattle.std.specs.List.{list_all, list_any}
use Rattle.std.proofs.lemmas.List.Sums.{sum_by-cons}
use Rattle.flow_model.specs.States.{Process}
use Rattle.flow_model.specs.Places.{ids_dropped}
use Rattle.flow_model.specs.Stands.{BodyShown, bodies_from, show_body}
use Rattle.flow_machine.specs.Values.{BodyValue, shown_body}
use Rattle.flow_plan.specs.Network.{Network}
use Rattle.flow_report.specs.declared.report.ProcessLine.{ProcessLine}
use Rattle.flow_report.specs.Of.{line_of_process, process_told, told_from}
use Rattle.flow_report.specs.States.{process_in}

-- its processes are the state's
pub processes-shown : {K : Type 0} (dropped : ℕ → List ℕ) (p : ℕ) (bodies : List (BodyValue K)) (xs : List (Process K))
    → map shown_body bodies ≡ bodies_from dropped p xs → map (λ b. b.process) bodies ≡ xs
processes-shown dropped p [] [] is = refl
processes-shown dropped p [] (x ∷ xs) is = absurd cc
processes-shown dropped p (b ∷ bodies) [] is = absurd cc
processes-shown dropped p (b ∷ bodies) (x ∷ xs) is =
    let head : shown_body b ≡ show_body dropped p x = cc in
    let tail : map shown_body bodies ≡ bodies_from dropped (p + 1) xs = cc in
    let first : b.process ≡ x = ap (λ (v : BodyShown _). v.process) head in
    let rest = processes-shown dropped (p + 1) bodies xs tail in
    rw (first, rest) refl

-- a sum over processes is the same over bodies
pub sum-processes : {K : Type 0} (f : Process K → ℕ) (bodies : List (BodyValue K)) → sum_by (λ b. f b.process) bodies ≡ sum_by f (map (λ b. b.process) bodies)
sum-processes f [] = refl
sum-processes f (b ∷ bodies) =
    omega (arith, sum_by-cons (λ (x : BodyValue _). f x.process) b bodies, sum_by-cons f b.process (map (λ (x : BodyValue _). x.process) bodies), sum-processes f bodies)

-- and so are tests
pub all-processes : {K : Type 0} (f : Process K → Bool) (bodies : List (BodyValue K)) → list_all (λ b. f b.process) bodies ≡ list_all f (map (λ b. b.process) bodies)
all-processes f [] = refl
all-processes f (b ∷ bodies) = ap (λ (t : Bool). f b.process && t) (all-processes f bodies)

-- Some process of the bodies passes a test where some body's process does.
pub any-processes : {K : Type 0} (f : Process K → Bool) (bodies : List (BodyValue K)) → list_any (λ b. f b.process) bodies ≡ list_any f (map (λ b. b.process) bodies)
any-processes f [] = refl
any-processes f (b ∷ bodies) = ap (λ (t : Bool). f b.process || t) (any-processes f bodies)

-- how many ids these n processes dropped, from process p on
pub dropped_from : (ℕ → List ℕ) → ℕ → ℕ → ℕ
dropped_from dropped p zero = 0
dropped_from dropped p (suc n) = length (dropped p) + dropped_from dropped (p + 1) n

dropped_snoc : (dropped : ℕ → List ℕ) (p n : ℕ) → dropped_from dropped p (suc n) ≡ dropped_from dropped p n + length (dropped (p + n))
unfolding dropped_from
dropped_snoc dropped p zero = let h : p + zero ≡ p = omega arith in let e : length (dropped (p + zero)) ≡ length (dropped p) = ap (λ (m : ℕ). length (dropped m)) h in omega (arith, e)
dropped_snoc dropped p (suc n) =
    let rest = dropped_snoc dropped (p + 1) n in
    let h : p + 1 + n ≡ p + suc n = omega arith in
    let e : length (dropped (p + 1 + n)) ≡ length (dropped (p + suc n)) = ap (λ (m : ℕ). length (dropped m)) h in
    omega (arith, rest, e)

-- All dropped packets are counted.
pub dropped-all : (dropped : ℕ → List ℕ) (n : ℕ) → dropped_from dropped 0 n ≡ length (ids_dropped dropped n)
unfolding dropped_from
dropped-all dropped zero = refl
dropped-all dropped (suc n) =
    let h : 0 + n ≡ n = omega arith in
    let e : length (dropped (0 + n)) ≡ length (dropped n) = ap (λ (m : ℕ). length (dropped m)) h in
    let snoc = dropped_snoc dropped 0 n in
    omega (arith, snoc, e, dropped-all dropped n, length-append (ids_dropped dropped n) (dropped n))

-- the bodies' counts of the dropped add up to that, where it is small
pub dropped-shown : {K : Type 0} (dropped : ℕ → List ℕ) (p : ℕ) (bodies : List (BodyValue K)) (xs : List (Process K))
    → map shown_body bodies ≡ bodies_from dropped p xs → dropped_from dropped p (length xs) < 2 ^ 64 → sum_by (λ b. b.dropped) bodies ≡ dropped_from dropped p (length xs)
unfolding dropped_from
dropped-shown dropped p [] [] is small = refl
dropped-shown dropped p [] (x ∷ xs) is small = absurd cc
dropped-shown dropped p (b ∷ bodies) [] is small = absurd cc
dropped-shown dropped p (b ∷ bodies) (x ∷ xs) is small =
    let head : shown_body b ≡ show_body dropped p x = cc in
    let tail : map shown_body bodies ≡ bodies_from dropped (p + 1) xs = cc in
    let first : b.dropped ≡ min (length (dropped p)) (2 ^ 64 - 1) = ap (λ (v : BodyShown _). v.dropped) head in
    let rest = dropped-shown dropped (p + 1) bodies xs tail (omega (arith, small)) in
    let exact : b.dropped ≡ length (dropped p) = omega (arith, first, small) in
    omega (arith, exact, rest, sum_by-cons (λ (y : BodyValue _). y.dropped) b bodies)

-- the lines of the bodies are those of the processes, where the counts of the dropped are small
pub lines-shown : {K : Type 0} (plan : Network) (dropped : ℕ → List ℕ) (p : ℕ) (bodies : List (BodyValue K)) (xs : List (Process K))
    → map shown_body bodies ≡ bodies_from dropped p xs → dropped_from dropped p (length xs) < 2 ^ 64 → told_from (process_told plan) p bodies ≡ told_from (process_in plan dropped) p xs
unfolding dropped_from
lines-shown plan dropped p [] [] is small = refl
lines-shown plan dropped p [] (x ∷ xs) is small = absurd cc
lines-shown plan dropped p (b ∷ bodies) [] is small = absurd cc
lines-shown {K} plan dropped p (b ∷ bodies) (x ∷ xs) is small =
    let head : shown_body b ≡ show_body dropped p x = cc in
    let tail : map shown_body bodies ≡ bodies_from dropped (p + 1) xs = cc in
    let process : b.process ≡ x = ap (λ (v : BodyShown K). v.process) head in
    let first : b.dropped ≡ min (length (dropped p)) (2 ^ 64 - 1) = ap (λ (v : BodyShown K). v.dropped) head in
    let exact : b.dropped ≡ length (dropped p) = omega (arith, first, small) in
    let rest = lines-shown plan dropped (p + 1) bodies xs tail (omega (arith, small)) in
    let line : process_told plan p b ≡ process_in plan dropped p x =
    ap (λ (y : Process K). line_of_process plan p y b.dropped ∷ []) process ∙ ap (λ (m : ℕ). line_of_process plan p x m ∷ []) exact in
    ap (λ (l : List ProcessLine). l ++ told_from (process_told plan) (p + 1) bodies) line ∙ ap (λ (l : List ProcessLine). process_in plan dropped p x ++ l) rest
