use Rattle.flow_model.specs.Plans.{start_of}
use Rattle.flow_model.proofs.Fits.{Fit-start, Fit-leads}
use Rattle.flow_model.proofs.Leaving.{ended-closed}
use Rattle.flow_model.proofs.laws.every_schedule_keeps_the_senders.Goals as goal

pub returns-clause-open_senders : goal.returns-clause-open_senders
returns-clause-open_senders g c = λ plan components journal s well leads.
    (Fit-leads g.K.Component.rules g.met.K.Component.lawful (start_of plan components) journal s (Fit-start g.K.Component.rules plan components well) leads).senders

pub returns-clause-ended : goal.returns-clause-ended
returns-clause-ended g c = λ plan components journal s well leads.
    ended-closed s (Fit-leads g.K.Component.rules g.met.K.Component.lawful (start_of plan components) journal s (Fit-start g.K.Component.rules plan components well) leads).senders
