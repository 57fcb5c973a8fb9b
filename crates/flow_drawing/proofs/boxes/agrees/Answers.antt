use Rattle.flow_drawing.proofs.Opening.{agrees-at, agrees-past}
use Rattle.flow_drawing.proofs.boxes.agrees.Goals as goal

pub returns-then-place-boxes : goal.returns-then-place-boxes
returns-then-place-boxes c = agrees-past c.args.opened.now c.args.boxes.now c.args.place c.if-place-boxes.true

pub returns : goal.returns
returns c =
    agrees-at c.args.opened.now c.args.boxes.now c.args.place c.index-opened-place.result c.index-boxes-place.result c.eq.result c.requires c.if-place-boxes.false
    c.index-opened-place.is c.index-boxes-place.is c.eq.ensures
