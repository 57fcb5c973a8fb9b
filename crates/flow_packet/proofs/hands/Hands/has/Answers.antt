use Rattle.std.proofs.Common.{rules, sym}
use Rattle.flow_packet.proofs.Places.{is_some-packet_at}
use Rattle.flow_packet.proofs.hands.Hands.has.Goals as goal

pub returns-clause-found : goal.returns-clause-found
returns-clause-found c = let p = is_some-packet_at c.deref.result.now c.args.id c.find_place.result (sym c.find_place.ensures) in search (rules, p)
