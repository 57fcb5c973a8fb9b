use Rattle.flow_draw.proofs.Reading.{net-stopped}
use Rattle.std.proofs.Common.{None}
use Rattle.flow_draw.proofs.scene.scene_of_net.Goals as goal

pub returns-in-Ok : goal.returns-in-Ok
returns-in-Ok g c =
    let l = c.in-Ok.ensures in
    record { net = l.0; text = l.1; file = l.3; shelf = l.2; none = c.none.ensures }

pub returns-in-Err : goal.returns-in-Err
returns-in-Err g c =
    net-stopped c.args.own.now (g.F.Edge.outside c.args.shelf.now) (g.F.Edge.outside c.load.new.shelf) c.args.name.now None c.in-Err.stop c.in-Err.ensures
