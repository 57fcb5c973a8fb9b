use Rattle.flow_pick.proofs.Carrying.{takes, passed-first}
use Rattle.flow_pick.proofs.tail.Tail.pass.Goals as goal

pub returns-in-Ok-Some : goal.returns-in-Ok-Some
returns-in-Ok-Some c =
    let first = rw c.in-Ok-Some.field-0-is at c.in-Ok-Some.ensures.first in
    let ok = rw c.in-Ok-Some.field-0-is at c.in-Ok-Some.ensures.ok in
    let k = c.requires.carries in
    let h = c.args.hands.now in
    let t = takes h c.args.carrier c.in-Ok-Some.first c.detach.new.self k.carries.packets _ k.carries.holds first ok in
    rw (← c.self.view_is) (passed-first (record { count = c.self.inside.count; rest = c.self.inside.rest; place = c.self.inside.place }) h c.detach.new.self c.args.carrier c.args.bracket c.in-Ok-Some.first t)
