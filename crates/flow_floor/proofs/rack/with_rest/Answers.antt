use Rattle.std.proofs.Common.{◌∙◌, ◌++◌, ◌∷◌, [], sym, ap, arith, length, length-append}
use Rattle.std.specs.Vec.Iter.{into_iter_items}
use Rattle.flow_floor.proofs.Lists.{one-more}
use Rattle.flow_floor.proofs.rack.with_rest.Goals as goal

pub push_reserved-requires : goal.push_reserved-requires
push_reserved-requires g c = let i = c.loop-body.invariant in let e = c.in-Some.ensures.cases in omega (arith, i.long, i.room, c.requires.room, ap (λ ys. length ys) e.0, c.loop-body.bodies.ok.0)

pub loop-body-preserved : goal.loop-body-preserved
loop-body-preserved g c = let i = c.loop-body.invariant in let e = c.in-Some.ensures.cases in let behind = into_iter_items c.next.new.self in record {
  items = (λ j. c.push_reserved.ensures.items j ++ behind) ∙ one-more c.loop-body.bodies.items c.in-Some.body behind ∙ ap (λ xs. c.loop-body.bodies.items ++ xs) (sym e.0) ∙ i.items;
  long = omega (arith, i.long, ap (λ ys. length ys) e.0, ap (λ ys. length ys) c.push_reserved.ensures.items, length-append c.loop-body.bodies.items (c.in-Some.body ∷ []));
  len = omega (arith, i.len, e.1, ap (λ ys. length ys) e.0);
  room = c.push_reserved.ensures.capacity ∙ i.room;
}
