-- Which process finds a part, and which is the first that finds none.
use Rattle.std.specs.Prelude.{◌⊎◌}
use Rattle.std.proofs.Common.{◌≡◌, ℕ, ◌<◌, ◌≤◌, List, length, Option, Some, None, refl, sym, ap, subst, ◌∙◌, inl, inr, arith, slice_get}
use Rattle.std.specs.Prelude.{slice_index}
use Rattle.std.proofs.lemmas.Bool.{cases_lt}
use Rattle.std.proofs.lemmas.Option.{slice_get_within}
use Rattle.flow_plan.specs.declared.kind.KindSpec.{KindSpec}
use Rattle.flow_plan.specs.declared.plan.Process.{Process}
use Rattle.flow_plan.specs.Network.{Network}
use Rattle.flow_offer.specs.Processes.{place_of}
use Rattle.flow_offer.proofs.Lists.{there-is}
use Rattle.flow_offer.specs.Shares.{earlier, FindsPart, FindsNoPart}

-- A process within the plan that doesn't find a part finds none.
pub finds-none : (own : List KindSpec) (counts : List ℕ) (plan : Network) (p : ℕ) → p < length plan.processes → (FindsPart own counts plan p → ⊥) → FindsNoPart own counts plan p
finds-none own counts plan p within not = by (place_of own x.kind) refl
  where
    x : Process
    x = (there-is plan.processes p within).0

    there : slice_get plan.processes p ≡ Some x
    there = (there-is plan.processes p within).1

    same : (process : Process) → slice_get plan.processes p ≡ Some process → x ≡ process
    same process at = let h : Some x ≡ Some process = sym there ∙ at in cc

    by : (place : Option ℕ) → place_of own x.kind ≡ place → FindsNoPart own counts plan p
    by None none = absurd (not (λ process place at is. absurd (let e = same process at in let h : None ≡ Some place = sym none ∙ ap (λ (y : Process). place_of own y.kind) e ∙ is in cc)))
    by (Some place) some = with-place (cases_lt (earlier plan x.kind p) (slice_index counts place))
      where
        with-place : (earlier plan x.kind p < slice_index counts place) ⊎ (slice_index counts place ≤ earlier plan x.kind p) → FindsNoPart own counts plan p
        with-place (inr few) = record { process = x; place = place; there = there; placed = some; few = few }
        with-place (inl less) = absurd (not (λ process other at is.
            let e = same process at in
            let h : Some place ≡ Some other = sym some ∙ ap (λ (y : Process). place_of own y.kind) e ∙ is in
            let places : place ≡ other = cc in
            subst (λ (y : Process). earlier plan y.kind p < slice_index counts other) e (subst (λ (k : ℕ). earlier plan x.kind p < slice_index counts k) places less)))

-- Where each process of the plan finds a part, there is none that doesn't.
pub all-find : (own : List KindSpec) (counts : List ℕ) (plan : Network) (n : ℕ) → length plan.processes ≤ n → ((q : ℕ) → q < n → FindsPart own counts plan q) → (p : ℕ) → FindsPart own counts plan p
all-find own counts plan n all each p process place there is = let within = slice_get_within plan.processes p process there in each p (omega arith) process place there is
