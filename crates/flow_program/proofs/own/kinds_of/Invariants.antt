use Rattle.std.proofs.Common.{◌≡◌, take}
use Rattle.flow_load.specs.Offers.{offers_of, specs_of}
use Rattle.flow_program.proofs.own.kinds_of.Given as goal

abbrev pub invariant-loop-kind : goal.invariant-loop-kind
invariant-loop-kind g l = l.kinds.items ≡ specs_of (offers_of (take l.kind-index l.own))
