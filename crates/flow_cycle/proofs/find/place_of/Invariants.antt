use Rattle.std.proofs.Common.{◌≡◌, drop}
use Rattle.flow_cycle.specs.Waiting.{rest_from}
use Rattle.flow_cycle.proofs.find.place_of.Given as goal

abbrev pub invariant-places : goal.invariant-places
invariant-places l = rest_from l.process l.way ≡ rest_from l.process (drop l.place l.way)
