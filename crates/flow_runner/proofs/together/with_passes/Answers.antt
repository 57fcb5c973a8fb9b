use Rattle.std.proofs.Common.{◌∙◌, ◌++◌, ◌∷◌, [], All, sym, ap, subst, arith, length, length-append}
use Rattle.std.specs.Vec.Iter.{into_iter_items}
use Rattle.flow_floor.proofs.Lists.{one-more, All-front, All-last}
use Rattle.flow_floor.proofs.Crews.{all-push}
use Rattle.flow_runner.specs.declared.server.Server.{Server}
use Rattle.flow_runner.specs.Posts.{posts_of, ArePassesAt, IsPosted, Watches}
use Rattle.flow_runner.specs.Serving.{workers_at}
use Rattle.flow_runner.proofs.Served.{workers-push}
use Rattle.flow_runner.proofs.together.with_passes.Goals as goal

pub push_reserved-requires : goal.push_reserved-requires
push_reserved-requires g c = let i = c.loop-worker.invariant in let e = c.in-Some.ensures.cases in omega (arith, i.long, i.room, c.requires.room.1, ap (λ ys. length ys) e.0, c.loop-worker.servers.ok.0)

pub loop-worker-preserved : goal.loop-worker-preserved
loop-worker-preserved g c =
    let i = c.loop-worker.invariant in
    let e = c.in-Some.ensures.cases in
    let r = c.in-Some-pop.ensures in
    let w = c.in-Some-pop-2.ensures in
    let posts = posts_of c.args.lines.now in
    let behind = into_iter_items c.next.new.self in
    let ss = c.loop-worker.servers.items in
    let s : Server g.row.K.Denot = record { worker = c.in-Some.worker; passes = c.in-Some-pop.passes; watch = c.in-Some-pop-2.watch } in
    let rows = subst (All (λ row. ArePassesAt posts row.items)) r.items i.rows.1 in
    let watches = subst (All (Watches posts)) w.items i.watches.1 in
    record {
      items = ap (λ xs. workers_at xs ++ behind) c.push_reserved.ensures.items ∙ ap (λ xs. xs ++ behind) (workers-push ss s) ∙ one-more (workers_at ss) c.in-Some.worker behind ∙ ap (λ xs. workers_at ss ++ xs) (sym e.0) ∙ i.items;
      long = omega (arith, i.long, ap (λ ys. length ys) e.0, ap (λ ys. length ys) c.push_reserved.ensures.items, length-append ss (s ∷ []));
      len = omega (arith, i.len, e.1, ap (λ ys. length ys) e.0);
      rows = (
        omega (arith, i.rows.0, ap (λ ys. length ys) e.0, ap (λ ys. length ys) r.items, length-append c.pop.new.self.items (c.in-Some-pop.passes ∷ [])),
        All-front (λ row. ArePassesAt posts row.items) c.pop.new.self.items c.in-Some-pop.passes rows,
      );
      watches = (
        omega (arith, i.watches.0, ap (λ ys. length ys) e.0, ap (λ ys. length ys) w.items, length-append c.pop-in-Some.new.self.items (c.in-Some-pop-2.watch ∷ [])),
        All-front (Watches posts) c.pop-in-Some.new.self.items c.in-Some-pop-2.watch watches,
      );
      room = c.push_reserved.ensures.capacity ∙ i.room;
      each = subst (All (IsPosted posts)) (sym c.push_reserved.ensures.items)
          (all-push (IsPosted posts) ss s i.each (All-last (λ row. ArePassesAt posts row.items) c.pop.new.self.items c.in-Some-pop.passes rows, All-last (Watches posts) c.pop-in-Some.new.self.items c.in-Some-pop-2.watch watches));
    }
