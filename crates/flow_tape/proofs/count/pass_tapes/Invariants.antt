use Rattle.std.proofs.Common.{◌≡◌, ◌-◌}
use Rattle.flow_own.specs.Reading.{behind, many_at}
use Rattle.flow_tape.specs.Reading.{tape_at}
use Rattle.flow_tape.proofs.count.pass_tapes.Given as goal

abbrev pub invariant-loop : goal.invariant-loop
invariant-loop l = behind (many_at tape_at (l.count - l.counter) l.rest) ≡ behind (many_at tape_at l.count l.bytes)
