use Rattle.std.proofs.Common.{refl}
use Rattle.flow_floor.specs.declared.floor.Held.{Held}
use Rattle.flow_floor.specs.Ends.{capacities_of}
use Rattle.flow_floor.proofs.Settling.{burst-makes, burst-settled}
use Rattle.flow_floor.proofs.floor.Floor.settle.Goals as goal

pub returns-clause-held : goal.returns-clause-held
returns-clause-held g c = let f = c.args.self.now in let h = c.args.held.now in let e = c.stamp_all-stamp.ensures in
    let h' : Held _ = record h { body = c.restamp.new.self } in
    burst-settled g.K.Component.rules f.table.shared.table_id f.layout.processes f.layout.connections (capacities_of f.table.shared.key.value) f.table.shared.key.value g.began c.args.worker.now c.stamp_all-stamp.new.worker h h' c.args.ends.now c.args.count c.stamp_all-stamp.result c.requires.1.0 e.seated e.stamps refl c.restamp.ensures

pub returns-clause-made : goal.returns-clause-made
returns-clause-made g c = let f = c.args.self.now in let h = c.args.held.now in let e = c.stamp_all-stamp.ensures in
    let h' : Held _ = record h { body = c.restamp.new.self } in
    burst-makes g.K.Component.rules f.table.shared.table_id f.layout.processes f.layout.connections (capacities_of f.table.shared.key.value) f.table.shared.key.value g.began c.args.worker.now c.stamp_all-stamp.new.worker h h' c.args.count c.stamp_all-stamp.result c.requires.1.0.seated e.stamps refl c.restamp.ensures e.above e.woken
