use Rattle.std.proofs.Common.{◌≡◌}
use Rattle.flow_offer.specs.Fits.{used_outputs}
use Rattle.flow_offer.proofs.fits.used_outputs.Given as goal

abbrev pub invariant-loop-output : goal.invariant-loop-output
invariant-loop-output l = l.used.items ≡ used_outputs l.plan l.process l.output
