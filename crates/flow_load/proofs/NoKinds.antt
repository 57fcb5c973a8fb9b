-- Where the caller has no kind of its own, no process is of one.
use Rattle.std.proofs.Common.{◌≡◌, ℕ, zero, suc, ◌+◌, ◌<◌, ◌≤◌, Bool, false, cond, [], ◌∷◌, Option, Some, None, is_some, length, slice_get, refl, ap, ◌∙◌, arith}
use Rattle.std.specs.List.{filter, range_with_len}
use Rattle.std.specs.Option.{option_and_then}
use Rattle.flow_plan.specs.declared.plan.Process.{Process}
use Rattle.flow_plan.specs.Network.{Network}
use Rattle.flow_offer.specs.Processes.{own_place, own_processes, place_of}

-- A list that a test passes nowhere is left empty.
pub all-fail : (test : ℕ → Bool) (from count : ℕ) → ((p : ℕ) → from ≤ p → p < from + count → test p ≡ false) → filter test (range_with_len from count) ≡ []
all-fail test from zero fails = refl
all-fail test from (suc count) fails =
    let first = fails from (omega arith) (omega arith) in
    let rest = all-fail test (from + 1) count (λ p least most. fails p (omega (arith, least)) (omega (arith, most))) in
    ap (λ (b : Bool). cond b (from ∷ filter test (range_with_len (from + 1) count)) (filter test (range_with_len (from + 1) count))) first ∙ rest

-- Without kinds of the caller's own no process is of one.
no-place : (found : Option Process) → is_some (option_and_then (λ (process : Process). place_of [] process.kind) found) ≡ false
no-place None = refl
no-place (Some process) = refl

-- So a plan has no processes of such kinds.
pub none-own : (plan : Network) → own_processes [] plan ≡ []
none-own plan = all-fail (λ p. is_some (own_place [] plan p)) 0 (length plan.processes) (λ p least most. no-place (slice_get plan.processes p))
