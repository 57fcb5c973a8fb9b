-- What a call that fails may tell one of several passes: the others may have emptied the line, or filled it.
use Rattle.std.proofs.Common.{◌≡◌, ◌≢◌, ℕ, zero, suc, ◌+◌, ◌-◌, ◌<◌, List, [], ◌∷◌, ◌++◌, length, set, sym, refl, ap, ◌∙◌, arith, length-append}
use Rattle.std.specs.Prelude.{sum_by}
use Rattle.std.proofs.lemmas.List.Sums.{sum_by-cons}
use mathlib.Core.Option.{some, some-ne-none, some-injective}
use lib.ListN.{get_elem?}
use Rattle.crossbeam_queue.proofs.Lists.{set_here, set_else}
use Rattle.flow_floor.proofs.Lists.{at_inside}
use Rattle.flow_runner.specs.declared.line.Hand.{Hand}
use Rattle.flow_runner.specs.Fair.{Fair, Was}
use Rattle.flow_runner.specs.Orders.{SeveralAreNotTold}
use Rattle.flow_runner.proofs.Fairs.{pops, puts}

-- where there are parts, some view has one
some_part : (vs : List Hand) → 0 < sum_by (λ (v : Hand). v.parts) vs → (k : ℕ) × (u : Hand) × (get_elem? vs k ≡ some u) × (0 < u.parts)
some_part [] part = absurd (omega (arith, part))
some_part (v ∷ vs) part = by v.parts refl (λ more. some_part vs more)
  where
    by : (n : ℕ) → v.parts ≡ n → (0 < sum_by (λ (v : Hand). v.parts) vs → (k : ℕ) × (u : Hand) × (get_elem? vs k ≡ some u) × (0 < u.parts)) → (k : ℕ) × (u : Hand) × (get_elem? (v ∷ vs) k ≡ some u) × (0 < u.parts)
    by zero none rest = (let r = rest (omega (arith, part, none, sum_by-cons (λ (u : Hand). u.parts) v vs)) in (suc r.0, r.1, r.2, r.3))
    by (suc n) some_parts rest = (0, v, refl, omega (arith, some_parts))

-- and where one view hasn't all, another has one
another_part : (vs : List Hand) (j : ℕ) (v : Hand) → get_elem? vs j ≡ some v → v.parts < sum_by (λ (u : Hand). u.parts) vs → (k : ℕ) × (u : Hand) × (k ≢ j) × (get_elem? vs k ≡ some u) × (0 < u.parts)
another_part [] j v at few = absurd (some-ne-none v (sym at))
another_part (x ∷ vs) zero v at few =
    let same : x.parts ≡ v.parts = ap (λ (u : Hand). u.parts) (some-injective x v at) in
    let r = some_part vs (omega (arith, few, same, sum_by-cons (λ (u : Hand). u.parts) x vs)) in (suc r.0, r.1, (λ e. absurd (omega (arith, e))), r.2, r.3)
another_part (x ∷ vs) (suc j) v at few = by x.parts refl (λ more. another_part vs j v at more)
  where
    by : (n : ℕ) → x.parts ≡ n → (v.parts < sum_by (λ (u : Hand). u.parts) vs → (k : ℕ) × (u : Hand) × (k ≢ j) × (get_elem? vs k ≡ some u) × (0 < u.parts)) → (k : ℕ) × (u : Hand) × (k ≢ suc j) × (get_elem? (x ∷ vs) k ≡ some u) × (0 < u.parts)
    by zero none rest = (let r = rest (omega (arith, few, none, sum_by-cons (λ (u : Hand). u.parts) x vs)) in (suc r.0, r.1, (λ e. r.2 (omega (arith, e))), r.3, r.4))
    by (suc n) some_parts rest = (0, x, (λ e. absurd (omega (arith, e))), refl, omega (arith, some_parts))

module _ (v : Hand) (j k : ℕ) (other : k ≢ j) where
  -- another pass pops all that there is
  emptied : (items gone : List ℕ) (views : List Hand) (u : Hand) → Fair gone items views → get_elem? views j ≡ some v → get_elem? views k ≡ some u → 0 < u.parts → (others : List ℕ) × Was v others []
  emptied [] gone views u f at at' part = (gone, (views, j, f, at))
  emptied (x ∷ items) gone views u f at at' part =
      let next = pops k u part x items views (gone, f) at' in
      emptied items next.1.0 (set views k next.0) next.0 next.1.1 (set_else views k j next.0 (λ e. other (sym e)) ∙ at) (set_here views k next.0 (at_inside views k u at')) (omega (arith, part, ap (λ (w : Hand). w.parts) next.2.3))

  -- another pass pushes until there is no room
  filled : (room : ℕ) (items gone : List ℕ) (views : List Hand) (u : Hand) → Fair gone items views → get_elem? views j ≡ some v → get_elem? views k ≡ some u → 0 < v.parts → 0 < u.parts → length items + room ≡ v.most
      → (others : List ℕ) × (full : List ℕ) × (length full ≡ v.most) × Was v others full
  filled zero items gone views u f at at' mine part long = (gone, items, omega (arith, long), (views, j, f, at))
  filled (suc room) items gone views u f at at' mine part long =
      let most : v.most ≡ f.most = (f.each j v at).0 mine in
      let theirs : u.most ≡ f.most = (f.each k u at').0 part in
      let next = puts u.most k u 0 part (omega (arith, long, most, theirs)) refl items views (omega (arith, long, most, theirs)) (gone, f) at' in
      filled room (items ++ 0 ∷ []) next.1.0 (set views k next.0) next.0 next.1.1 (set_else views k j next.0 (λ e. other (sym e)) ∙ at) (set_here views k next.0 (at_inside views k u at')) mine (omega (arith, part, ap (λ (w : Hand). w.parts) next.2.3))
      (omega (arith, long, length-append items (0 ∷ [])))

-- Whatever one of several passes did, the others may have emptied the line, or filled it.
pub several-are-not-told : SeveralAreNotTold
several-are-not-told v gone items (views, j, f, at) mine few =
    let o = another_part views j v at (omega (arith, few, f.parts)) in
    let most : v.most ≡ f.most = (f.each j v at).0 mine in (
      emptied v j o.0 o.2 items gone views o.1 f at o.3 o.4,
      (let room = f.room in let free : (room : ℕ) × (length items + room ≡ v.most) = (v.most - length items, omega (arith, room, most)) in filled v j o.0 o.2 free.0 items gone views o.1 f at o.3 mine o.4 free.1),
    )
