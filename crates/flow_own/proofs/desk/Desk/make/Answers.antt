use Rattle.std.proofs.Common.{rules, None}
use Rattle.flow_packet.specs.Held.{held_of}
use Rattle.flow_own.specs.Acts.{IsActs}
use Rattle.flow_own.proofs.Desks.{IsActs-make}
use Rattle.flow_own.proofs.desk.Desk.make.Goals as goal

pub invariant_of-self : goal.invariant_of-self
invariant_of-self c =
    let none : IsActs (held_of c.self.inside.hands.now) None c.self.inside.dropped.items = search rules in
    let can = IsActs-make (held_of c.self.inside.hands.now) (c.args.kind, c.in-Ok.text) c.self.inside.dropped.items none in
    search (rules, can)
