-- What is told of the first elements of a list, and of one more.
use Rattle.std.proofs.Common.{◌≡◌, ℕ, zero, suc, ◌+◌, ◌<◌, List, [], ◌∷◌, ◌++◌, length, take, map, Option, Some, None, refl, sym, ◌∙◌, ap, arith, append_assoc, add-zero}
use mathlib.Core.List.{append-nil}
use Rattle.std.specs.Prelude.{slice_get, sum_by, option_and_then}
use Rattle.std.proofs.lemmas.List.Sums.{sum_by-append, sum_by-cons}
use Rattle.std.proofs.lemmas.Option.{slice_get-map}
use Rattle.std.specs.Option.{option_map}
use Rattle.flow_model.specs.declared.Block.{Block}
use Rattle.flow_model.specs.States.{Process}
use Rattle.flow_model.specs.Verdicts.{block_of}
use Rattle.flow_machine.specs.Values.{BodyValue, NetValue}
use Rattle.flow_machine.specs.Nets.{looks_of, block_at}
use Rattle.flow_plan.specs.Network.{Network}
use Rattle.flow_report.specs.declared.report.Blocked.{Blocked}
use Rattle.flow_machine.specs.Joins.{processes_of}
use Rattle.flow_report.specs.Of.{capped, totals_in, with_process, told_from, block_told, named_block}

-- one element more
pub take-more : {X : Type 0} → (xs : List X) (k : ℕ) (x : X) → slice_get xs k ≡ Some x → take (suc k) xs ≡ take k xs ++ x ∷ []
take-more [] k x h = cc
take-more (y ∷ ys) zero x h = let same : y ≡ x = cc in ap (λ z. z ∷ []) same
take-more (y ∷ ys) (suc k) x h = ap (λ l. y ∷ l) (take-more ys k x h)

-- what is told of one element more
told-more : {A X : Type 0} → (tell : ℕ → A → List X) (p k : ℕ) (xs : List A) (x : A) → slice_get xs k ≡ Some x
    → told_from tell p (take (suc k) xs) ≡ told_from tell p (take k xs) ++ tell (p + k) x
told-more tell p k [] x h = cc
told-more tell p zero (s ∷ ss) x h =
    let same : s ≡ x = cc in
    let n : p ≡ p + zero = omega arith in
    append-nil (tell p s) ∙ ap (λ t. tell p t) same ∙ ap (λ m. tell m x) n
told-more tell p (suc k) (s ∷ ss) x h =
    let n : p + 1 + k ≡ p + suc k = omega arith in
    ap (λ rest. tell p s ++ rest) (told-more tell (p + 1) k ss x h)
    ∙ sym (append_assoc (tell p s) (told_from tell (p + 1) (take k ss)) (tell (p + 1 + k) x))
    ∙ ap (λ m. (tell p s ++ told_from tell (p + 1) (take k ss)) ++ tell m x) n

-- The list that a loop makes, which begins with this one.
pub told-step : {A X : Type 0} → (tell : ℕ → A → List X) (xs : List A) (k : ℕ) (x : A) (start before after : List X) → slice_get xs k ≡ Some x
    → before ≡ start ++ told_from tell 0 (take k xs) → after ≡ before ++ tell k x → after ≡ start ++ told_from tell 0 (take (suc k) xs)
told-step tell xs k x start before after there is grown =
    let n : 0 + k ≡ k = omega arith in
    grown
    ∙ ap (λ l. l ++ tell k x) is
    ∙ append_assoc start (told_from tell 0 (take k xs)) (tell k x)
    ∙ ap (λ m. start ++ (told_from tell 0 (take k xs) ++ tell m x)) (sym n)
    ∙ ap (λ l. start ++ l) (sym (told-more tell 0 k xs x there))

-- The process of a body.
pub process-there : {K : Type 0} → (bodies : List (BodyValue K)) (k : ℕ) (b : BodyValue K) → slice_get bodies k ≡ Some b → slice_get (processes_of bodies) k ≡ Some b.process
process-there {K} bodies k b there = slice_get-map (λ (x : BodyValue K). x.process) bodies k ∙ ap (λ o. option_map (λ (x : BodyValue K). x.process) o) there

capped-more : {X : Type 0} → (f : X → ℕ) (xs : List X) (x : X) → capped (sum_by f (xs ++ x ∷ [])) ≡ capped (capped (sum_by f xs) + f x)
capped-more f xs x =
    ap capped (sum_by-append f xs (x ∷ []))
    ∙ (let one : sum_by f (x ∷ []) ≡ f x = sum_by-cons f x [] ∙ add-zero (f x) in ap (λ n. capped (sum_by f xs + n)) one)
    ∙ (let goal : capped (sum_by f xs + f x) ≡ capped (capped (sum_by f xs) + f x) = omega arith in goal)

-- the sums with one process more
pub totals-more : {K : Type 0} → (bodies : List (BodyValue K)) (k : ℕ) (b : BodyValue K) → slice_get bodies k ≡ Some b
    → with_process (totals_in (take k bodies)) b ≡ totals_in (take (suc k) bodies)
totals-more {K} bodies k b there =
    sym (ap (λ (l : List (BodyValue K)). totals_in l) (take-more bodies k b there)
    ∙ ap (λ n. record (totals_in ((take k bodies) ++ b ∷ [])) { turns = n }) (capped-more (λ x. x.process.turns) (take k bodies) b)
    ∙ ap (λ n. record (with_process (totals_in (take k bodies)) b) { made = n; dropped = capped (sum_by (λ x. x.dropped) ((take k bodies) ++ b ∷ [])) }) (capped-more (λ x. x.process.held.made) (take k bodies) b)
    ∙ ap (λ n. record (with_process (totals_in (take k bodies)) b) { dropped = n }) (capped-more (λ x. x.dropped) (take k bodies) b))

-- The list of what blocks the processes, with one more.
pub block-step : {K : Type 0} → (plan : Network) (net : NetValue K) (p : ℕ) (block : Option Block) (before after : List Blocked) → p < length net.bodies → block ≡ block_at net p
    → before ≡ told_from (block_told plan (looks_of net.channels)) 0 (take p (processes_of net.bodies)) → after ≡ before ++ named_block plan p block
    → after ≡ told_from (block_told plan (looks_of net.channels)) 0 (take (suc p) (processes_of net.bodies))
block-step {K} plan net p block before after below found is grown = by (slice_get net.bodies p) refl found
  where
    within : (xs : List (BodyValue K)) (i : ℕ) → i < length xs → slice_get xs i ≡ None → ⊥
    within [] i here none = absurd (omega (arith, here))
    within (x ∷ xs) zero here none = cc
    within (x ∷ xs) (suc i) here none = within xs i (omega (arith, here)) none

    by : (body : Option (BodyValue K)) → slice_get net.bodies p ≡ body → block ≡ option_and_then (λ (b : BodyValue K). block_of (looks_of net.channels) b.process) body
        → after ≡ told_from (block_told plan (looks_of net.channels)) 0 (take (suc p) (processes_of net.bodies))
    by (Some b) there same =
        told-step (block_told plan (looks_of net.channels)) (processes_of net.bodies) p b.process [] before after (process-there net.bodies p b there) is (grown ∙ ap (λ (o : Option Block). before ++ named_block plan p o) same)
    by None there same = absurd (within net.bodies p below there)
