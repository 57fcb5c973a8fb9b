use denote.Param.Send.{sendable}
use Rattle.std.proofs.Common.{◌<◌, length, get_or, arith, ap}
use Rattle.flow_floor.proofs.Crews.{crew-each}
use Rattle.flow_floor.specs.Floors.{IsIdleAt, HasSameShare}
use Rattle.flow_runner.specs.Serving.{HasServed, workers_at}
use Rattle.flow_runner.proofs.Crews.{has-kept}
use Rattle.flow_runner.proofs.Served.{each-worker, same-count, served-as, served-new}
use Rattle.flow_runner.proofs.Crossing.{budget-sync, floor-sync, lines-sync, server-send}
use Rattle.flow_runner.proofs.together.serve_all.Goals as goal

pub returns-clause-crew : goal.returns-clause-crew
returns-clause-crew g c = let f = c.args.floor.now in let xs = c.args.servers.now in let ys = c.for_each_mut.new.s in (
  crew-each f.table.shared.table_id (workers_at xs) (workers_at ys) c.requires.crew (same-count xs ys c.for_each_mut.auto.s)
      (each-worker (λ a b. IsIdleAt f b × HasSameShare a b) xs ys c.for_each_mut.auto.s
      (λ i d lt. let at = (c.for_each_mut.ensures i d lt).1 in
      has-kept f (get_or xs i d).worker (get_or ys i d).worker at.argument.now.worker at.after_call.now.worker (ap (λ s. s.worker) at.argument_is) (ap (λ s. s.worker) at.left) at.call.0 at.call.1.0)),
  c.for_each_mut.auto.s,
)

pub returns-clause-done : goal.returns-clause-done
returns-clause-done g c k d lt = let xs = c.args.servers.now in let ys = c.for_each_mut.new.s in
    let below : k < length (workers_at xs) = omega (arith, lt, same-count xs ys c.for_each_mut.auto.s) in
    served-new c.args.budget (get_or (workers_at xs) k d) (get_or (workers_at ys) k d) (c.requires.new k d below)
    (each-worker (HasServed c.args.budget) xs ys c.for_each_mut.auto.s
    (λ i e m. let at = (c.for_each_mut.ensures i e m).1 in
    served-as c.args.budget (get_or xs i e).worker (get_or ys i e).worker at.argument.now.worker at.after_call.now.worker (ap (λ s. s.worker) at.argument_is) (ap (λ s. s.worker) at.left) at.call.1.1) k d below)

pub for_each_mut-requires-send-T : goal.for_each_mut-requires-send-T
for_each_mut-requires-send-T g c κs within = search (sendable, server-send) depth 20

pub for_each_mut-requires-sync-F : goal.for_each_mut-requires-sync-F
for_each_mut-requires-sync-F g c κs within = search (sendable, floor-sync, lines-sync, budget-sync) depth 20
