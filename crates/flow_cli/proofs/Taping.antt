-- The tapes of a net, process by process.
use Rattle.std.proofs.Common.{◌≡◌, ◌≢◌, ◌⊎◌, inl, inr, ℕ, ◌+◌, ◌<◌, Bool, true, false, cond, List, [], ◌∷◌, ◌++◌, map, is_some, refl, sym, ◌∙◌, ap, subst, arith}
use mathlib.Core.List.{append-nil}
use Rattle.std.proofs.lemmas.List.{map-append}
use Rattle.flow_machine.specs.Values.{BodyValue}
use Rattle.flow_model.proofs.Lists.{same_or_not}
use Rattle.flow_plan.specs.declared.kind.KindSpec.{KindSpec}
use Rattle.flow_plan.specs.Network.{Network}
use Rattle.flow_offer.specs.Processes.{own_place}
use Rattle.flow_load.specs.Offers.{AnyKind, Taped}
use Rattle.flow_cli.specs.Leaves.{tape_by, IsRecordedAt}
use Rattle.flow_load.proofs.Counting.{own_below, own-more}

-- The tapes of the processes below k that are of a kind of the caller's own, each with a file or a player's.
pub record TapedBelow (own : List KindSpec) (plan : Network) (bodies : List (BodyValue AnyKind)) (k : ℕ) (tapes : List Taped) : Type 0 where
  pub tapes_are : tapes ≡ map (tape_by bodies) (own_below own plan k)
  pub recorded : (p : ℕ) → p < k → is_some (own_place own plan p) ≡ true → IsRecordedAt bodies p

-- Below the first process there are none.
pub none-below : (own : List KindSpec) (plan : Network) (bodies : List (BodyValue AnyKind)) → TapedBelow own plan bodies 0 []
none-below own plan bodies = record { tapes_are = refl; recorded = λ p less. absurd (omega (arith, less)) }

below-or-here : (p k : ℕ) → p < k + 1 → (p < k) ⊎ (p ≡ k)
below-or-here p k less = by (same_or_not p k)
  where
    by : (p ≡ k) ⊎ (p ≢ k) → (p < k) ⊎ (p ≡ k)
    by (inl same) = inr same
    by (inr other) = inl (omega (arith, less, other))

-- One process more, which is of a kind of the caller's own.
pub one-taped : (own : List KindSpec) (plan : Network) (bodies : List (BodyValue AnyKind)) (k : ℕ) (tapes : List Taped) (tape : Taped) → is_some (own_place own plan k) ≡ true → tape ≡ tape_by bodies k
    → IsRecordedAt bodies k → TapedBelow own plan bodies k tapes → TapedBelow own plan bodies (k + 1) (tapes ++ tape ∷ [])
one-taped own plan bodies k tapes tape is here recorded below = record {
  tapes_are = ap (λ (l : List Taped). l ++ tape ∷ []) below.tapes_are ∙ ap (λ (t : Taped). map (tape_by bodies) (own_below own plan k) ++ t ∷ []) here
      ∙ sym (map-append (tape_by bodies) (own_below own plan k) (k ∷ []))
      ∙ ap (map (tape_by bodies)) (sym (own-more own plan k ∙ ap (λ (b : Bool). own_below own plan k ++ cond b (k ∷ []) []) is));
  recorded = λ p less place. by p place (below-or-here p k less);
} where
  by : (p : ℕ) → is_some (own_place own plan p) ≡ true → (p < k) ⊎ (p ≡ k) → IsRecordedAt bodies p
  by p place (inl less) = below.recorded p less place
  by p place (inr same) = subst (IsRecordedAt bodies) (sym same) recorded

-- One process more, which is of a standard kind.
pub none-taped : (own : List KindSpec) (plan : Network) (bodies : List (BodyValue AnyKind)) (k : ℕ) (tapes : List Taped) → is_some (own_place own plan k) ≡ false → TapedBelow own plan bodies k tapes
    → TapedBelow own plan bodies (k + 1) tapes
none-taped own plan bodies k tapes is below = record {
  tapes_are = below.tapes_are ∙ ap (map (tape_by bodies)) (sym (own-more own plan k ∙ ap (λ (b : Bool). own_below own plan k ++ cond b (k ∷ []) []) is ∙ append-nil (own_below own plan k)));
  recorded = λ p less place. by p place (below-or-here p k less);
} where
  by : (p : ℕ) → is_some (own_place own plan p) ≡ true → (p < k) ⊎ (p ≡ k) → IsRecordedAt bodies p
  by p place (inl less) = below.recorded p less place
  by p place (inr same) = absurd (let h = subst (λ (q : ℕ). is_some (own_place own plan q) ≡ true) same place in cc)
