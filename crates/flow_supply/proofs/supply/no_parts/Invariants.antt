use Rattle.std.proofs.Common.{◌≡◌, length}
use Rattle.flow_supply.proofs.supply.no_parts.Given as goal

abbrev pub invariant-loop : goal.invariant-loop
invariant-loop g l = length l.parts.items ≡ l.counter
