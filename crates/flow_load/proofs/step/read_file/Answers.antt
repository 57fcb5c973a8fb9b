use Rattle.flow_load.proofs.Steps.{read-whole}
use Rattle.flow_load.proofs.step.read_file.Goals as goal

pub returns-in-Ok : goal.returns-in-Ok
returns-in-Ok g c =
    read-whole (g.F.Edge.outside c.args.shelf.now) (g.F.Edge.outside c.open.new.self) (g.F.Edge.outside c.read_all.new.source) c.args.name.now
    c.in-Ok.ensures.opens.0 c.args.limit c.read_all.result c.in-Ok.ensures.opens.1 c.read_all.ensures
