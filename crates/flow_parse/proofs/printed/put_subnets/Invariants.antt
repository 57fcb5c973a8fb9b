use Rattle.std.proofs.Common.{◌≡◌, ◌++◌, take}
use Rattle.std.specs.List.{flat_map}
use Rattle.flow_parse.specs.Canonical.{subnet_lines}
use Rattle.flow_parse.proofs.printed.put_subnets.Given as goal

abbrev pub invariant-subnets : goal.invariant-subnets
invariant-subnets l = l.out.items ≡ l.fn.out.items ++ flat_map subnet_lines (take l.subnet-index l.subnets)
