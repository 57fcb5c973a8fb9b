use Rattle.flow_load.specs.MadeJobs.{AreNoParts}
use Rattle.flow_load.proofs.made_job.no_parts.Given as goal

abbrev pub invariant-loop-place : goal.invariant-loop-place
invariant-loop-place g l = AreNoParts l._place l.parts.items
