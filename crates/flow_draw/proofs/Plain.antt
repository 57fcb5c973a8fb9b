-- Whether a network has processes of kinds of the caller's own.
use Rattle.std.proofs.Common.{◌≡◌, ◌≢◌, ◌∙◌, ℕ, zero, suc, ◌+◌, ◌<◌, ◌≤◌, Bool, true, false, cond, List, [], ◌∷◌, is_some, length, refl, sym, ap, arith}
use Rattle.std.specs.List.{filter, range_with_len}
use Rattle.flow_plan.specs.Network.{Network}
use Rattle.flow_plan.specs.declared.kind.KindSpec.{KindSpec}
use Rattle.flow_offer.specs.Processes.{own_place, own_processes}
use Rattle.flow_load.specs.Offers.{Taped}
use Rattle.flow_load.proofs.NoKinds.{all-fail}

-- Where the first fails one that passes comes later.
later : (test : ℕ → Bool) (from p : ℕ) → from ≤ p → test from ≡ false → test p ≡ true → from + 1 ≤ p
later test from p least fails passes =
    let differ : (from ≡ p → ⊥) = (λ same. (let moved = ap test same in absurd cc)) in
    grind (arith, least, differ)

-- A list that a test passes somewhere isn't left empty: its first one, or one of the rest.
first-or-rest : (test : ℕ → Bool) (from count : ℕ) (first : Bool) → test from ≡ first → (first ≡ false → filter test (range_with_len (from + 1) count) ≢ [])
    → filter test (range_with_len from (suc count)) ≢ []
first-or-rest test from count true is rest none =
    (let whole = sym (ap (λ (b : Bool). cond b (from ∷ filter test (range_with_len (from + 1) count)) (filter test (range_with_len (from + 1) count))) is) ∙ none in
    absurd cc)
first-or-rest test from count false is rest none =
    rest refl (sym (ap (λ (b : Bool). cond b (from ∷ filter test (range_with_len (from + 1) count)) (filter test (range_with_len (from + 1) count))) is) ∙ none)

one-passes : (test : ℕ → Bool) (from count p : ℕ) → from ≤ p → p < from + count → test p ≡ true → filter test (range_with_len from count) ≢ []
one-passes test from zero p least most passes none = omega (arith, least, most)
one-passes test from (suc count) p least most passes none =
    first-or-rest test from count (test from) refl
    (λ fails. one-passes test (from + 1) count p (later test from p least fails passes) (omega (arith, most)) passes) none

-- One process of a kind of the caller's own was found.
pub one-own : (own : List KindSpec) (plan : Network) (p : ℕ) → p < length plan.processes → is_some (own_place own plan p) ≡ true → own_processes own plan ≢ []
one-own own plan p below passes = one-passes (λ p. is_some (own_place own plan p)) 0 (length plan.processes) p (omega arith) (omega (arith, below)) passes

-- None was found.
pub no-own : (own : List KindSpec) (plan : Network) → ((p : ℕ) → p < length plan.processes → is_some (own_place own plan p) ≡ false) → own_processes own plan ≡ []
no-own own plan none = all-fail (λ p. is_some (own_place own plan p)) 0 (length plan.processes) (λ p least most. none p (omega (arith, most)))

-- No tapes are as many as there are such processes, where there are none.
pub no-tapes : (own : List KindSpec) (plan : Network) (tapes : List Taped) → own_processes own plan ≡ [] → tapes ≡ [] → length tapes ≡ length (own_processes own plan)
no-tapes own plan tapes none_own none = ap length none ∙ sym (ap length none_own)
