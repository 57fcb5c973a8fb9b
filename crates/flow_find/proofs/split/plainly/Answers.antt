use Rattle.flow_find.proofs.Telling.{tells_more, tells_last}
use Rattle.flow_find.proofs.split.plainly.Goals as goal

pub returns-in-Some : goal.returns-in-Some
returns-in-Some c text next is = rw c.piece-made.ensures (tells_more text c.args.cut next is c.in-Some.place c.in-Some.is)

pub returns-in-None : goal.returns-in-None
returns-in-None c text next is = rw c.piece-made.ensures (tells_last text c.args.cut next is c.in-None.is)
