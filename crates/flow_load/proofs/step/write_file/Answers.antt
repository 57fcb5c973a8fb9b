use Rattle.flow_load.proofs.Steps.{written, unwritten, unfinished}
use Rattle.flow_load.proofs.step.write_file.Goals as goal

pub returns-in-Ok-finish : goal.returns-in-Ok-finish
returns-in-Ok-finish g c =
    written (g.F.Edge.outside c.args.shelf.now) (g.F.Edge.outside c.create.new.self) c.args.name.now c.in-Ok.ensures.creates
    (g.F.Edge.outside c.write_all.new.sink) (g.F.Edge.outside c.finish.new.self) c.args.bytes.now c.in-Ok-write_all.ensures c.in-Ok-finish.ensures.finishes

pub returns-in-Err-finish : goal.returns-in-Err-finish
returns-in-Err-finish g c =
    unfinished (g.F.Edge.outside c.args.shelf.now) (g.F.Edge.outside c.create.new.self) c.args.name.now c.in-Ok.ensures.creates
    (g.F.Edge.outside c.write_all.new.sink) (g.F.Edge.outside c.finish.new.self) c.args.bytes.now c.in-Ok-write_all.ensures c.in-Err-finish.ensures.finishes

pub returns-in-Err-Fault : goal.returns-in-Err-Fault
returns-in-Err-Fault g c =
    unwritten (g.F.Edge.outside c.args.shelf.now) (g.F.Edge.outside c.create.new.self) c.args.name.now c.in-Ok.ensures.creates
    (g.F.Edge.outside c.write_all.new.sink) c.args.bytes.now c.in-Err-Fault.field-0 c.in-Err-Fault.ensures
