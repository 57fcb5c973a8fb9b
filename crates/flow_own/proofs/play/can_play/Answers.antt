use Rattle.std.proofs.Common.{rules}
use Rattle.flow_packet.specs.Held.{held_of}
use Rattle.flow_own.proofs.Players.{none-left, some-left}
use Rattle.flow_own.proofs.play.can_play.Goals as goal

pub returns-in_default : goal.returns-in_default
returns-in_default c = let p = none-left c.args.shape c.args.used.now (held_of c.args.hands.now) c.args.answer.now c.args.entry.now (search rules) in search (rules, p)

pub returns : goal.returns
returns c =
    let s = some-left c.args.shape c.args.used.now (held_of c.args.hands.now) c.args.answer.now c.args.entry.now c.in-Some.left.items (search rules) (search rules) (search rules) in search (rules, s)
