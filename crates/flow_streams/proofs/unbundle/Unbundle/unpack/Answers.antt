use Rattle.flow_streams.proofs.Gathering.{took}
use Rattle.flow_streams.proofs.unbundle.Unbundle.unpack.Goals as goal

pub returns-in-Ok-Some : goal.returns-in-Ok-Some
returns-in-Ok-Some c =
    let first = rw c.in-Ok-Some.field-0-is at c.in-Ok-Some.ensures.first in
    let ok = rw c.in-Ok-Some.field-0-is at c.in-Ok-Some.ensures.ok in
    took c.args.hands.now c.args.packet c.in-Ok-Some.child c.detach.new.self c.requires.alone first ok
