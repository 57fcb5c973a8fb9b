use Rattle.std.proofs.Common.{◌≡◌, ◌+◌, ◌∙◌, ◌++◌, ◌∷◌, [], suc, Some, ap, refl, arith, length, length-set, slice_get, take}
use Rattle.atomic_table.proofs.Lists.{set_else}
use Rattle.flow_machine.specs.Values.{BodyValue}
use Rattle.flow_floor.proofs.Lists.{get-exists}
use Rattle.flow_floor.specs.declared.board.Slot.TheVariants as slot
use Rattle.flow_floor.proofs.Slots.{body-is}
use Rattle.flow_floor.proofs.Filling.{found-in, take-all, take-next}
use Rattle.flow_floor.proofs.back.take_back_bodies.Goals as goal
use Rattle.flow_floor.proofs.back.take_back_bodies.Goals.{In-loop-p, After-index_mut}

-- It is the turn of this body, which lies in its slot.
body-of : (g : _) (c : In-loop-p g) → (b : BodyValue g.row.K.Denot) × (slice_get c.args.about.now.value.bodies c.loop-p.p ≡ Some b)
body-of g c = get-exists c.args.about.now.value.bodies c.loop-p.p (omega (arith, c.loop-p-test.true, c.requires.count))

found-of : (g : _) (c : After-index_mut g) (b : BodyValue g.row.K.Denot) → slice_get c.args.about.now.value.bodies c.loop-p.p ≡ Some b → c.index_mut.result.now ≡ slot.Body b
found-of g c b there = let p = c.loop-p.p in found-in c.loop-p.slots.items p p c.index_mut.result.now (slot.Body b) refl c.index_mut.ensures.value (c.loop-p.invariant.others p (omega arith) ∙ c.requires.there p b there)

pub unreachable-requires : goal.unreachable-requires
unreachable-requires g c = let all = goal.at.unreachable-requires g c in let b = body-of g all.In-loop-p in c.in_default.not-Body b.0 (c.replace-slot.ensures.value ∙ found-of g all.After-index_mut b.0 b.1)

pub loop-p-preserved : goal.loop-p-preserved
loop-p-preserved g c =
    let all = goal.at.loop-p-preserved g c in
    let b = body-of g all.In-loop-p in
    let inv = c.loop-p.invariant in
    let p = c.loop-p.p in
    let xs = c.loop-p.slots.items in
    let bs = c.args.about.now.value.bodies in
    let same : c.into_body.result ≡ b.0 = c.into_body.ensures ∙ body-is c.replace-slot.result c.in-Body.body b.0 c.in-Body.is (c.replace-slot.ensures.value ∙ found-of g all.After-index_mut b.0 b.1) in
    record {
      bodies = c.push_reserved.ensures.items ∙ (λ j. inv.bodies j ++ same j ∷ []) ∙ take-next bs p b.0 b.1 ∙ ap (λ n. take n bs) (let e : suc p ≡ p + 1 = omega arith in e);
      others = λ x high. set_else xs p x c.replace-slot.new.dest (λ e. omega (arith, e, high)) ∙ inv.others x (omega (arith, high));
      deep = length-set xs p c.replace-slot.new.dest ∙ inv.deep;
      room = c.push_reserved.ensures.capacity ∙ inv.room;
    }

pub returns-clause-bodies : goal.returns-clause-bodies
returns-clause-bodies g c = let bs = c.args.about.now.value.bodies in
    c.loop-p.invariant.bodies ∙ ap (λ n. take n bs) (let e : c.loop-p.p ≡ length bs = omega (arith, c.loop-p-test.false, c.loop-p.auto, c.requires.count) in e) ∙ take-all bs
