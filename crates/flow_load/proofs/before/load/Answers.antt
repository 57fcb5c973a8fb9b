use Rattle.flow_load.proofs.Parting.{read-stopped}
use Rattle.flow_load.proofs.Befores.{file-stopped}
use Rattle.flow_load.proofs.before.load.Goals as goal

pub returns-in-Err : goal.returns-in-Err
returns-in-Err g c =
    let o = g.F.Edge.outside c.args.shelf.now in
    let n = g.F.Edge.outside c.read_file.new.shelf in
    file-stopped c.args.kinds.now o n c.args.name.now c.read_stop.result (read-stopped o n c.args.name.now c.in-Err.stop c.read_stop.result c.in-Err.ensures c.read_stop.ensures)
