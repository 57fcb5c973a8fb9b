use Rattle.std.proofs.Common.{ap}
use Rattle.flow_text.proofs.Pieces.{failed}
use Rattle.flow_text.proofs.all.read_piece.Goals as goal

pub returns-in-Err : goal.returns-in-Err
returns-in-Err g c =
    let r = c.in-Err.ensures.reads in
    failed (g.S.Edge.outside c.args.source.now) (g.S.Edge.outside c.read.new.self) r.0 r.1 (ap (λ o. o.left) r.0)
