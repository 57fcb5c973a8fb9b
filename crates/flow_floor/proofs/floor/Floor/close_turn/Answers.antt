use Rattle.std.proofs.Common.{refl, ap}
use Rattle.flow_floor.specs.Workers.{view}
use Rattle.flow_floor.proofs.Came.{at-close, close-output, is-busy}
use Rattle.flow_floor.proofs.floor.Floor.close_turn.Goals as goal

pub arrive-requires-clause-output : goal.arrive-requires-clause-output
arrive-requires-clause-output g c = close-output c.args.held.now.body c.args.place c.args.connection c.requires.outlet

pub returns-in-Some-clause-turned : goal.returns-in-Some-clause-turned
returns-in-Some-clause-turned g c = let f = c.args.self.now in let b = c.args.held.now.body in let e = c.in-Some.ensures.came in let v = view c.args.worker.now in (
  (refl, ap (λ v. v.made) e.3),
  is-busy f.layout.processes f.layout.connections f.table.shared.key.value b v (view c.arrive.new.worker) c.args.connection c.in-Some.word (at-close b.process c.args.place c.args.connection c.requires.stage c.requires.outlet) e.1 c.requires.held.calm.sending e.2 e.3,
)
