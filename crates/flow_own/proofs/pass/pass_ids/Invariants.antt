use Rattle.std.proofs.Common.{◌≡◌, ◌-◌}
use Rattle.flow_own.specs.Reading.{behind, many_at, id_at}
use Rattle.flow_own.proofs.pass.pass_ids.Given as goal

abbrev pub invariant-loop : goal.invariant-loop
invariant-loop l = behind (many_at id_at (l.count - l.counter) l.rest) ≡ behind (many_at id_at l.count l.bytes)
