use Rattle.std.proofs.Common.{◌∙◌, ◌++◌, ◌∷◌, [], sym, ap, arith, length, length-append}
use Rattle.std.specs.Vec.Iter.{into_iter_items}
use Rattle.flow_floor.proofs.Lists.{one-more}
use Rattle.flow_runner.specs.Serving.{workers_at}
use Rattle.flow_runner.proofs.together.without_passes.Goals as goal

pub push_reserved-requires : goal.push_reserved-requires
push_reserved-requires g c = let i = c.loop-server.invariant in let e = c.in-Some.ensures.cases in omega (arith, i.long, i.room, c.requires.room.1, ap (λ ys. length ys) e.0, c.loop-server.crew.ok.0)

pub loop-server-preserved : goal.loop-server-preserved
loop-server-preserved g c = let i = c.loop-server.invariant in let e = c.in-Some.ensures.cases in let behind = workers_at (into_iter_items c.next.new.self) in record {
  items = ap (λ xs. xs ++ behind) c.push_reserved.ensures.items ∙ one-more c.loop-server.crew.items c.in-Some.server.worker behind ∙ ap (λ xs. c.loop-server.crew.items ++ workers_at xs) (sym e.0) ∙ i.items;
  long = omega (arith, i.long, ap (λ ys. length ys) e.0, ap (λ ys. length ys) c.push_reserved.ensures.items, length-append c.loop-server.crew.items (c.in-Some.server.worker ∷ []));
  len = omega (arith, i.len, e.1, ap (λ ys. length ys) e.0);
  room = c.push_reserved.ensures.capacity ∙ i.room;
}
