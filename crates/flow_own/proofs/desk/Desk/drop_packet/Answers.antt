use Rattle.std.proofs.Common.{rules, ◌≡◌, ◌==◌, ◌&&◌, not, true, is_some}
use Rattle.std.specs.List.{list_any}
use Rattle.flow_packet.specs.Hands.{packet_at}
use Rattle.flow_packet.specs.Held.{held_of}
use Rattle.flow_own.proofs.Desks.{IsActs-drop}
use Rattle.flow_own.proofs.desk.Desk.drop_packet.Goals as goal

pub invariant_of-self-2 : goal.invariant_of-self-2
invariant_of-self-2 c =
    let there : (is_some (packet_at c.self.inside.hands.now.packets c.args.id) && not (list_any (λ other. other == c.args.id) c.self.inside.dropped.items)) ≡ true = search rules in
    let can = IsActs-drop (held_of c.self.inside.hands.now) c.self.inside.made c.self.inside.dropped.items c.args.id c.self.invariant.0 (search rules) there in
    search (rules, can)
