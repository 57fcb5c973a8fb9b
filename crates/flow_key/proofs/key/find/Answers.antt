use Rattle.std.proofs.Common.{length, arith}
use Rattle.flow_key.proofs.Keys.{found-none, found-new, never-long}
use Rattle.flow_key.proofs.key.find.Goals as goal

pub unreachable-requires : goal.unreachable-requires
unreachable-requires c =
    never-long c.args.filler.now c.args.text.now c.requires.with (length c.args.text.now) c.in-Some-TooLong-default.field-0-0-0 c.in-Some-TooLong-default.field-0-1 (omega arith)
    (rw (c.in-Some-TooLong-default.is, c.in-Some-TooLong-default.field-0-0-is) at c.in_ok-next.ensures.filled)

pub returns-in-None-clause-key : goal.returns-in-None-clause-key
returns-in-None-clause-key c = found-none c.args.filler.now c.args.text.now c.requires.with (rw c.in-None.is at c.in_ok-next.ensures.filled)

pub returns-in-Some-New-default-clause-key : goal.returns-in-Some-New-default-clause-key
returns-in-Some-New-default-clause-key c =
    found-new c.args.filler.now c.args.text.now c.requires.with (length c.args.text.now) c.in-Some-New-default.key c.in-Some-New-default.field-0-1
    (rw (c.in-Some-New-default.is, c.in-Some-New-default.field-0-0-is) at c.in_ok-next.ensures.filled)
