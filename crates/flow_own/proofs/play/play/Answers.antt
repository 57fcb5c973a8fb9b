use Rattle.std.proofs.Common.{rules, slice_get}
use Rattle.flow_packet.specs.Held.{held_of}
use Rattle.flow_own.specs.TapesLaws.{playable}
use Rattle.flow_own.proofs.Players.{plays-ok, plays-without}
use Rattle.flow_own.proofs.play.play.Goals as goal

pub act-requires-clause-can : goal.act-requires-clause-can
act-requires-clause-can c = let p = playable c.args.shape c.args.used.now (held_of c.args.hands.now) c.args.answer.now c.in-Ok-Some.entry (search rules) in p.acts

pub returns-then-not-act-clause-plays : goal.returns-then-not-act-clause-plays
returns-then-not-act-clause-plays c =
    let same = c.if-not-act.ensures.unchanged in
    plays-without c.args.shape c.args.used.now (slice_get c.args.tape.now c.args.place) c.in-Ok-Some.entry c.args.hands.now c.act.new.hands c.args.answer.now (search rules) (record { held = same.0; count = same.1 })

pub returns-clause-plays : goal.returns-clause-plays
returns-clause-plays c =
    let done = c.if-not-act.ensures in
    plays-ok c.args.shape c.args.used.now (slice_get c.args.tape.now c.args.place) c.in-Ok-Some.entry c.args.hands.now c.act.new.hands c.args.answer.now (search rules) (search rules) (record { held = done.done; count = done.count })
