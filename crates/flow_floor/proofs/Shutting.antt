-- What a floor that is closed gives: one more of its bodies and of its starved processes, and a net of all its parts.
use Rattle.std.proofs.Common.{◌≡◌, ℕ, ◌+◌, ◌≤◌, List, [], ◌∷◌, ◌++◌, length-append, ap, sym, subst, ◌∙◌, arith, refl, Option, Some, inl, inr, Bool, true, false, get_or, slice_get, Contains, length}
use mathlib.Core.Option.{some, some-injective}
use lib.ListN.{get_elem?}
use Rattle.std.proofs.lemmas.List.Elements.{All-append, Contains-append_left, Contains-push}
use Rattle.flow_plan.specs.declared.plan.Connection.{Connection}
use Rattle.flow_model.specs.Stands.{ChannelShown}
use Rattle.flow_model.proofs.Lists.{same_or_not}
use Rattle.flow_machine.specs.Values.{BodyValue, NetValue, net_with}
use Rattle.flow_floor.proofs.Lists.{push-old, push-new, All-one, some_Some}
use Rattle.flow_floor.specs.declared.board.Slot.{Slot}
use Rattle.flow_floor.specs.declared.board.Slot.TheVariants as slot
use Rattle.flow_floor.specs.Shut.{BodiesIn, ListsStarved, starves, listed}
use Rattle.flow_floor.proofs.Slots.{body-is}

-- One more process was looked at.
pub lists-more : {K : Type 0} (ws : List ℕ) (bodies : List (BodyValue K)) (p : ℕ) (b : BodyValue K) (starved : List ℕ) → slice_get bodies p ≡ Some b → ListsStarved ws bodies p starved → ListsStarved ws bodies (p + 1) (listed starved p (starves (get_or ws p 0) b.process.stage))
lists-more {K} ws bodies p b starved there l = by (starves (get_or ws p 0) b.process.stage) refl
  where
    same : (d : BodyValue K) → slice_get bodies p ≡ Some d → b ≡ d
    same d at = some_Some b d (sym there ∙ at)

    by : (is : Bool) → starves (get_or ws p 0) b.process.stage ≡ is → ListsStarved ws bodies (p + 1) (listed starved p is)
    by true is = record {
      each = All-append (λ q. (d : BodyValue K) × (slice_get bodies q ≡ Some d) × (starves (get_or ws q 0) d.process.stage ≡ true)) starved (p ∷ []) l.each (All-one (λ q. (d : BodyValue K) × (slice_get bodies q ≡ Some d) × (starves (get_or ws q 0) d.process.stage ≡ true)) p (b, there, is));
      all = λ q d below at yes. elim (same_or_not q p) [
        | inl e ↦ subst (λ n. Contains (starved ++ p ∷ []) n) (sym e) (Contains-push starved p)
        | inr other ↦ Contains-append_left starved (p ∷ []) q (l.all q d (omega (arith, below, other)) at yes)
      ];
    }
    by false is = record {
      each = l.each;
      all = λ q d below at yes. elim (same_or_not q p) [
        | inl e ↦ absurd (let d_is : b ≡ d = same d (ap (slice_get bodies) (sym e) ∙ at) in
            let t : false ≡ true = sym is ∙ (λ i. starves (get_or ws (sym e i) 0) (d_is i).process.stage) ∙ yes in cc)
        | inr other ↦ l.all q d (omega (arith, below, other)) at yes
      ];
    }

-- A list of processes grows by one at most.
pub listed-few : (xs : List ℕ) (p : ℕ) (is : Bool) → length (listed xs p is) ≤ length xs + 1
listed-few xs p true = omega (arith, length-append xs (p ∷ []))
listed-few xs p false = omega arith

-- Connections, bodies and channels of a net are the net.
pub whole-net : {K : Type 0} (net : NetValue K) (cs : List Connection) (bs : List (BodyValue K)) (ks : List ChannelShown) → cs ≡ net.connections → bs ≡ net.bodies → ks ≡ net.channels → net_with cs bs ks ≡ net
whole-net net cs bs ks c b k = λ i. net_with (c i) (b i) (k i)

module _ {K : Type 0} where
  pub bodies-more : (n : ℕ) (xs : List (Slot K)) (bs : List (BodyValue K)) (b : BodyValue K) → BodiesIn n xs bs → get_elem? xs n ≡ some (slot.Body b) → BodiesIn (n + 1) xs (bs ++ b ∷ [])
  bodies-more n xs bs b have at = (
    omega (arith, have.0, length-append bs (b ∷ [])),
    λ q d below is. elim (same_or_not q n) [
      | inl same ↦ (let e : b ≡ d = body-is (slot.Body b) b d refl (some-injective (slot.Body b) (slot.Body d) (sym at ∙ ap (get_elem? xs) (sym same) ∙ is)) in push-new bs b q (omega (arith, same, have.0)) ∙ ap (λ (x : BodyValue K). let r : Option (BodyValue K) = Some x in r) e)
      | inr other ↦ push-old bs b q (omega (arith, below, other, have.0)) ∙ have.1 q d (omega (arith, below, other)) is
    ],
  )

  pub bodies-end : (n m : ℕ) (xs : List (Slot K)) (bs : List (BodyValue K)) → n ≤ m → m ≤ n → BodiesIn n xs bs → BodiesIn m xs bs
  bodies-end n m xs bs le ge have = let e : n ≡ m = omega (arith, le, ge) in subst (λ k. BodiesIn k xs bs) e have
