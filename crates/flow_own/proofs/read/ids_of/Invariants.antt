use Rattle.std.proofs.Common.{◌≡◌, ◌-◌}
use Rattle.flow_own.specs.Reading.{many_at, id_at}
use Rattle.flow_own.proofs.Many.{with_front}
use Rattle.flow_own.proofs.read.ids_of.Given as goal

abbrev pub invariant-loop : goal.invariant-loop
invariant-loop l = with_front l.ids.items (many_at id_at (l.count - l.counter) l.rest) ≡ many_at id_at l.count l.bytes
