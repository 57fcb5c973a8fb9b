-- The one place of a kind among the caller's own.
use Rattle.std.proofs.Common.{◌≡◌, ℕ, zero, suc, Bool, true, false, List, [], ◌∷◌, Some, refl, sym, ap, ◌∙◌, slice_get}
use Rattle.std.specs.Prelude.{◌||◌, not}
use Rattle.std.specs.List.{list_any}
use Rattle.std.specs.Option.{option_and_then}
use Rattle.std.specs.Str.{bytes_eq}
use Rattle.std.proofs.lemmas.Bool.{false≢true}
use Rattle.std.proofs.lemmas.Slice.Eq.{bytes_eq-Decides}
use Rattle.flow_net.proofs.Ends.{and_true}
use Rattle.flow_net.specs.Kinds.{all_differ}
use Rattle.flow_model.proofs.Leaving.{position-only}
use Rattle.flow_plan.specs.declared.kind.KindSpec.{KindSpec}
use Rattle.flow_plan.specs.declared.plan.Process.{Process}
use Rattle.flow_plan.specs.Network.{Network}
use Rattle.flow_offer.specs.Kinds.{AreOwnKinds, kind_names}
use Rattle.flow_offer.specs.Processes.{IsOwnAt, own_place, place_of}

-- a kind that stands among these has one of their names
named : (own : List KindSpec) (i : ℕ) (kind : KindSpec) (name : List ℕ) → slice_get own i ≡ Some kind → name ≡ kind.name → list_any (bytes_eq name) (kind_names own) ≡ true
named [] i kind name at is = absurd cc
named (first ∷ own) zero kind name at is =
    let same : first ≡ kind = cc in
    ap (λ b. b || list_any (bytes_eq name) (kind_names own)) ((bytes_eq-Decides name first.name).1 (is ∙ ap (λ (k : KindSpec). k.name) (sym same)))
named (first ∷ own) (suc i) kind name at is = or-true (bytes_eq name first.name) (list_any (bytes_eq name) (kind_names own)) (named own i kind name at is)
  where
    or-true : (a b : Bool) → b ≡ true → (a || b) ≡ true
    or-true true b is = refl
    or-true false b is = is

-- kinds of one name stand at one place
one-place : (own : List KindSpec) (i j : ℕ) (k l : KindSpec) → all_differ (kind_names own) ≡ true → slice_get own i ≡ Some k → slice_get own j ≡ Some l → k.name ≡ l.name → i ≡ j
one-place [] i j k l differ at there same = absurd cc
one-place (first ∷ own) zero zero k l differ at there same = refl
one-place (first ∷ own) zero (suc j) k l differ at there same =
    let is : first ≡ k = cc in
    let among = named own j l first.name there (ap (λ (kind : KindSpec). kind.name) is ∙ same) in
    absurd (false≢true (ap not (sym among) ∙ (and_true (not (list_any (bytes_eq first.name) (kind_names own))) (all_differ (kind_names own)) differ).0))
one-place (first ∷ own) (suc i) zero k l differ at there same =
    let is : first ≡ l = cc in
    let among = named own i k first.name at (ap (λ (kind : KindSpec). kind.name) is ∙ sym same) in
    absurd (false≢true (ap not (sym among) ∙ (and_true (not (list_any (bytes_eq first.name) (kind_names own))) (all_differ (kind_names own)) differ).0))
one-place (first ∷ own) (suc i) (suc j) k l differ at there same =
    ap (λ (n : ℕ). suc n) (one-place own i j k l (and_true (not (list_any (bytes_eq first.name) (kind_names own))) (all_differ (kind_names own)) differ).1 at there same)

-- A kind stands at the place of its name.
pub kind-place : (own : List KindSpec) (place : ℕ) (kind : KindSpec) → AreOwnKinds own → slice_get own place ≡ Some kind → place_of own kind.name ≡ Some place
kind-place own place kind are here =
    position-only (λ (k : KindSpec). bytes_eq k.name kind.name) own place kind here ((bytes_eq-Decides kind.name kind.name).1 refl)
    (λ k other at passes. one-place own k place other kind are.differ at here ((bytes_eq-Decides other.name kind.name).0 passes))

-- The place of the kind of a process's name is that of its kind.
pub its-kind : (own : List KindSpec) (plan : Network) (p : ℕ) → AreOwnKinds own → (is : IsOwnAt own plan p) → place_of own is.process.kind ≡ Some is.place
its-kind own plan p are is = ap (place_of own) is.named ∙ kind-place own is.place is.kind are is.here

-- The place of the process among the caller's own kinds is that of its kind.
pub its-own-place : (own : List KindSpec) (plan : Network) (p : ℕ) → AreOwnKinds own → (is : IsOwnAt own plan p) → own_place own plan p ≡ Some is.place
its-own-place own plan p are is = ap (option_and_then (λ (process : Process). place_of own process.kind)) is.there ∙ its-kind own plan p are is
