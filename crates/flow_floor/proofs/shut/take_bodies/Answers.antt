use Rattle.std.proofs.Common.{◌+◌, ◌++◌, ◌∷◌, [], false, get_or, set, sym, ap, ◌∙◌, arith, get_or-set_same, get_or-set_other, subst}
use mathlib.Core.Logic.{dite}
use native.Mathlib.Decide.{ℕ_discrete}
use mathlib.Core.Option.{some, some-injective}
use lib.ListN.{get_elem?}
use Rattle.std.specs.Mem.Slots.{slots_items, slots_filled, slots_counts}
use Rattle.flow_floor.specs.declared.board.Slot.TheVariants as slot
use Rattle.flow_floor.specs.Shut.{BodiesIn}
use Rattle.flow_floor.proofs.Shutting.{bodies-more, bodies-end}
use Rattle.flow_floor.proofs.shut.take_bodies.Goals as goal

pub unreachable-requires : goal.unreachable-requires
unreachable-requires g c = let inv = c.loop-p.invariant in let b = c.requires.stocked c.loop-p.p c.loop-p-test.true in
    c.in_default.not-Body b.0 (some-injective c.take-slot.result (slot.Body b.0) (sym c.take-slot.ensures.value ∙ ap (λ xs. get_elem? xs c.loop-p.p) inv.same ∙ b.1))

pub loop-p-preserved : goal.loop-p-preserved
loop-p-preserved g c =
    let fs₀ = slots_filled c.loop-p.closed.slots in
    let k' = (slots_counts c.loop-p.closed.slots).1 in
    let h = c.take-slot.ensures.others in
    let inv = c.loop-p.invariant in
    let p = c.loop-p.p in
    record {
      same = h.0 ∙ inv.same;
      long = h.2 ∙ inv.long;
      words = h.3 ∙ inv.words;
      gone = λ q lt. ap (λ fs. get_or fs q false) h.1 ∙ dite (ℕ_discrete q p) (λ e. ap (λ z. get_or (set fs₀ p false) z false) e ∙ get_or-set_same fs₀ p false false (omega (arith, k', inv.long, c.requires.range, c.loop-p-test.true)))
          (λ other. get_or-set_other fs₀ p q false false other ∙ inv.gone q (omega (arith, lt, other)));
      left = λ q low high. ap (λ fs. get_or fs q false) h.1 ∙ (get_or-set_other fs₀ p q false false (λ e. omega (arith, e, low)) ∙ inv.left q (omega (arith, low)) (omega (arith, high, ap (λ s. s) h.2)));
      room = omega (arith, inv.room, c.push_reserved.ensures.capacity);
      count = c.push_reserved.ensures.len ∙ ap (λ n. n + 1) inv.count;
      made = subst (λ bs. BodiesIn (p + 1) (slots_items c.args.closed.now.slots) bs) (sym (c.push_reserved.ensures.items ∙ (λ j. c.loop-p.bodies.items ++ c.into_body.ensures j ∷ [])))
          (bodies-more p (slots_items c.args.closed.now.slots) c.loop-p.bodies.items c.in-Body.body inv.made (ap (λ xs. get_elem? xs p) (sym inv.same) ∙ c.take-slot.ensures.value ∙ ap (λ s. some s) c.in-Body.is));
    }

pub returns-clause-bodies : goal.returns-clause-bodies
returns-clause-bodies g c = bodies-end c.loop-p.p c.args.count (slots_items c.args.closed.now.slots) c.loop-p.bodies.items c.loop-p.auto.p-end c.loop-p-test.false c.loop-p.invariant.made
