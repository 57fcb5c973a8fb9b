use Rattle.std.proofs.Common.{◌≡◌, slice_get, drop}
use Rattle.std.specs.List.{filter_map}
use Rattle.flow_flat.specs.Subnets.{stands_for}
use Rattle.flow_expand.proofs.named.port_inside.Given as goal

abbrev pub invariant-statements : goal.invariant-statements
invariant-statements l = slice_get (filter_map (stands_for l.fn.input l.fn.port.name) l.statements) 0 ≡ slice_get (filter_map (stands_for l.fn.input l.fn.port.name) (drop l.statement-index l.statements)) 0
