use Rattle.std.proofs.Common.{refl}
use Rattle.flow_floor.specs.Ends.{capacities_of}
use Rattle.flow_floor.specs.Views.{exiting}
use Rattle.flow_floor.specs.Workers.{view}
use Rattle.flow_floor.proofs.Bursting.{burst-left, output-none}
use Rattle.flow_floor.proofs.floor.Floor.leave.Goals as goal

pub returns-in_default-clause-held : goal.returns-in_default-clause-held
returns-in_default-clause-held g c = let f = c.args.self.now in let q = c.requires.1.0 in let w = c.args.worker.now in let v = view w in
    burst-left g.K.Component.rules f.table.shared.table_id f.layout.processes f.layout.connections (capacities_of f.table.shared.key.value) g.began w w c.args.held.now c.args.ends.now v q c.requires.1.1 q.seated refl refl (output-none c.args.ends.now.output v.sending q.output c.in_default.is) refl refl

pub returns-clause-held : goal.returns-clause-held
returns-clause-held g c = let f = c.args.self.now in let q = c.requires.1.0 in let w = c.args.worker.now in
    burst-left g.K.Component.rules f.table.shared.table_id f.layout.processes f.layout.connections (capacities_of f.table.shared.key.value) g.began w c.depart.new.worker c.args.held.now c.args.ends.now (exiting (view w)) q c.requires.1.1 c.depart.ensures.seated c.depart.ensures.view refl refl refl refl
