use Rattle.std.proofs.Common.{◌≡◌}
use Rattle.flow_net.specs.Finishes.{options_of, initials_of}
use Rattle.flow_net.proofs.lay.given.Given as goal

abbrev pub invariant-texts : goal.invariant-texts
invariant-texts l = (l.options.items ≡ options_of l.draft.ports.now l.yielded) × (l.initials.items ≡ initials_of l.draft.ports.now l.yielded)
