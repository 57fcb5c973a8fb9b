use Rattle.std.proofs.Common.{◌≡◌, ◌-◌}
use Rattle.flow_own.specs.Reading.{many_at}
use Rattle.flow_tape.specs.Reading.{tape_at}
use Rattle.flow_own.proofs.Many.{with_front}
use Rattle.flow_tape.proofs.parse.many_tapes_of.Given as goal

abbrev pub invariant-loop : goal.invariant-loop
invariant-loop l = with_front l.tapes.items (many_at tape_at (l.count - l.counter) l.rest) ≡ many_at tape_at l.count l.fn.bytes
