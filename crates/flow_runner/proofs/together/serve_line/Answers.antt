use Rattle.std.proofs.Common.{◌∙◌, All, length, rules, sym, ap, subst}
use Rattle.flow_floor.specs.Floors.{IsCrewOf, IsNewWorker}
use Rattle.flow_runner.specs.Posts.{posts_of, IsAtPosts}
use Rattle.flow_runner.specs.Serving.{HasDone, workers_at}
use Rattle.flow_runner.proofs.Crews.{written}
use Rattle.flow_runner.proofs.Served.{each-at, same-count}
use Rattle.flow_runner.proofs.together.serve_line.Goals as goal

pub serve_all-requires-clause-each : goal.serve_all-requires-clause-each
serve_all-requires-clause-each g c κs within = let f = c.args.floor.now in let ss = c.with_passes-servers.result.items in let e = c.with_passes-servers.ensures in
    subst (All (IsAtPosts f (posts_of c.in-Ok.laid.lines))) (sym c.as_mut_slice.ensures.value) (each-at f (posts_of c.in-Ok.laid.lines) ss (subst (IsCrewOf f) (sym e.workers) c.requires.crew.0).0 e.posted)

pub serve_all-requires-clause-crew : goal.serve_all-requires-clause-crew
serve_all-requires-clause-crew g c κs within = subst (IsCrewOf c.args.floor.now) (sym (ap workers_at c.as_mut_slice.ensures.value ∙ c.with_passes-servers.ensures.workers)) c.requires.crew.0

pub serve_all-requires-clause-new : goal.serve_all-requires-clause-new
serve_all-requires-clause-new g c κs within = subst (All IsNewWorker) (sym (ap workers_at c.as_mut_slice.ensures.value ∙ c.with_passes-servers.ensures.workers)) c.requires.new

pub returns-clause-crew : goal.returns-clause-crew
returns-clause-crew g c = let ss = c.serve_all.new.servers in
    let whole = ap workers_at (written c.with_passes-servers.result.len ss c.with_passes-servers.result.items (search rules)) in
    let is = c.without_passes.ensures ∙ whole in (
      subst (IsCrewOf c.args.floor.now) (sym is) c.serve_all.ensures.crew.0,
      ap (λ ws. length ws) is ∙ same-count c.as_mut_slice.result.now ss c.serve_all.ensures.crew.1 ∙ ap (λ xs. length (workers_at xs)) c.as_mut_slice.ensures.value ∙ ap (λ ws. length ws) c.with_passes-servers.ensures.workers ∙ c.requires.crew.1,
    )

pub returns-clause-done : goal.returns-clause-done
returns-clause-done g c = let ss = c.serve_all.new.servers in
    let whole = ap workers_at (written c.with_passes-servers.result.len ss c.with_passes-servers.result.items (search rules)) in
    subst (All (HasDone c.args.budget)) (sym (c.without_passes.ensures ∙ whole)) c.serve_all.ensures.done
