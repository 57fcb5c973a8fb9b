use Rattle.std.proofs.Common.{List, ℕ, Ok, Err, subst}
use Rattle.flow_load.specs.Networks.{ReadsAs}
use Rattle.flow_load.proofs.Parting.{read-stopped}
use Rattle.flow_draw.proofs.Reading.{file-read, file-refused, file-stopped}
use Rattle.flow_draw.proofs.scene.load.Goals as goal

pub returns-in-Err : goal.returns-in-Err
returns-in-Err g c =
    let o = g.F.Edge.outside c.args.shelf.now in
    let n = g.F.Edge.outside c.read_file.new.shelf in
    file-stopped c.args.own.now o n c.args.name.now c.read_stop.result (read-stopped o n c.args.name.now c.in-Err.stop c.read_stop.result c.in-Err.ensures c.read_stop.ensures)

pub returns-in-Ok-network : goal.returns-in-Ok-network
returns-in-Ok-network g c =
    let o = g.F.Edge.outside c.args.shelf.now in
    let n = g.F.Edge.outside c.read_file.new.shelf in
    file-read c.args.own.now o n c.args.name.now c.in-Ok.net.items c.in-Ok-network.file c.in-Ok.ensures.0 c.in-Ok.ensures.1
    (subst (λ (bytes : List ℕ). ReadsAs c.args.own.now bytes (Ok c.in-Ok-network.file)) c.deref.ensures.value c.in-Ok-network.ensures)

pub returns : goal.returns
returns g c =
    let o = g.F.Edge.outside c.args.shelf.now in
    let n = g.F.Edge.outside c.read_file.new.shelf in
    file-refused c.args.own.now o n c.args.name.now c.in-Ok.net.items c.in-Err-network.stop c.in-Ok.ensures.0 c.in-Ok.ensures.1
    (subst (λ (bytes : List ℕ). ReadsAs c.args.own.now bytes (Err c.in-Err-network.stop)) c.deref.ensures.value c.in-Err-network.ensures)
