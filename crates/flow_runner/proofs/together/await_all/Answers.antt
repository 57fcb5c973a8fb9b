use denote.Param.Send.{sendable}
use Rattle.std.proofs.Common.{◌<◌, length, get_or, arith}
use Rattle.flow_floor.proofs.Crews.{crew-each}
use Rattle.flow_runner.proofs.Crews.{has-kept}
use Rattle.flow_runner.proofs.Served.{served-as, served-idle, served-new}
use Rattle.flow_runner.proofs.Crossing.{worker-send, floor-sync}
use Rattle.flow_runner.proofs.together.await_all.Goals as goal

pub returns-clause-crew : goal.returns-clause-crew
returns-clause-crew g c = (
  crew-each c.args.floor.now.table.shared.table_id c.args.crew.now c.for_each_mut.new.s c.requires.crew c.for_each_mut.auto.s
      (λ i d lt. let at = (c.for_each_mut.ensures i d lt).1 in has-kept c.args.floor.now _ _ at.argument.now at.after_call.now at.argument_is at.left at.call.0 at.call.1.0),
  c.for_each_mut.auto.s,
)

pub returns-clause-done : goal.returns-clause-done
returns-clause-done g c budget k d lt = let below : k < length c.args.crew.now = omega (arith, lt, c.for_each_mut.auto.s) in let at = (c.for_each_mut.ensures k d below).1 in
    served-new budget (get_or c.args.crew.now k d) (get_or c.for_each_mut.new.s k d) (c.requires.new k d below)
    (served-as budget (get_or c.args.crew.now k d) (get_or c.for_each_mut.new.s k d) at.argument.now at.after_call.now at.argument_is at.left (served-idle budget at.argument.now at.after_call.now at.call.1.1.1 at.call.1.1.0))

pub for_each_mut-requires-send-T : goal.for_each_mut-requires-send-T
for_each_mut-requires-send-T g c κs within = search (sendable, worker-send) depth 20

pub for_each_mut-requires-sync-F : goal.for_each_mut-requires-sync-F
for_each_mut-requires-sync-F g c κs within = search (sendable, floor-sync) depth 20
