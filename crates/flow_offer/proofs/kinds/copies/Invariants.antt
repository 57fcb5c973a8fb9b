use Rattle.std.proofs.Common.{◌≡◌, take}
use Rattle.flow_offer.proofs.kinds.copies.Given as goal

abbrev pub invariant-loop-spec : goal.invariant-loop-spec
invariant-loop-spec l = l.copies.items ≡ take l.spec-index l.own
