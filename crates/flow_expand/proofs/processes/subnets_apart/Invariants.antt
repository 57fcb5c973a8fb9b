use Rattle.std.proofs.Common.{◌≡◌}
use Rattle.std.specs.List.{filter_map, flat_map}
use Rattle.flow_expand.specs.Tells.{own_meant, own_process}
use Rattle.flow_expand.proofs.processes.subnets_apart.Given as goal

abbrev pub invariant-list : goal.invariant-list
invariant-list l = (l.plain.items ≡ filter_map (own_process l.text) l.yielded) × (flat_map (own_meant l.text) l.subnets.items ≡ flat_map (own_meant l.text) l.yielded)
