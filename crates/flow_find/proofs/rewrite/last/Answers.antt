use Rattle.flow_find.proofs.Telling.{tells_new, tells_long, tells_same}
use Rattle.flow_find.proofs.rewrite.last.Goals as goal

pub returns-in-New : goal.returns-in-New
returns-in-New c by text h = tells_new by text c.in-New.new (rw c.in-New.is at h)

pub returns-in-TooLong : goal.returns-in-TooLong
returns-in-TooLong c by text h = tells_long by text c.in-TooLong.count (rw c.in-TooLong.is at h)

pub returns-in-Same : goal.returns-in-Same
returns-in-Same c by text h = tells_same by text (rw c.in-Same.is at h)
