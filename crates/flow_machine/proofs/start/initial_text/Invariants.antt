use Rattle.std.proofs.Common.{◌≡◌, drop}
use Rattle.flow_model.specs.Plans.{text_at}
use Rattle.flow_machine.proofs.start.initial_text.Given as goal

abbrev pub invariant-loop-initial : goal.invariant-loop-initial
invariant-loop-initial l = text_at (drop l.initial-index l.initials) l.input ≡ text_at l.initials l.input
