use Rattle.flow_find.proofs.Telling.{tells_more_inside, tells_last_inside}
use Rattle.flow_find.proofs.split.within_brackets.Goals as goal

pub returns-in-Some : goal.returns-in-Some
returns-in-Some c next is = rw c.piece-made.ensures (tells_more_inside c.args.text.now c.args.cut next is c.in-Some.place c.in-Some.is)

pub returns-in-None : goal.returns-in-None
returns-in-None c next is = rw c.piece-made.ensures (tells_last_inside c.args.text.now c.args.cut next is c.in-None.is)
