use Rattle.flow_part_rig.proofs.Well.{well_after}
use Rattle.flow_part_rig.proofs.turns.told.Goals as goal

pub returns-in-Ok-clause-well : goal.returns-in-Ok-clause-well
returns-in-Ok-clause-well g c = well_after _ _ _ _ _ _ c.requires.live c.requires.well c.in-Ok.ensures.resumes.0
