use Rattle.std.proofs.Common.{◌≡◌, take}
use Rattle.flow_load.specs.Offers.{counts_of}
use Rattle.flow_load.proofs.parts.counts_of.Given as goal

abbrev pub invariant-loop-kind : goal.invariant-loop-kind
invariant-loop-kind g l = l.counts.items ≡ counts_of (take l.kind-index l.parts)
