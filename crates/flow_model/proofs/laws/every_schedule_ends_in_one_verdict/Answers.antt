use Rattle.flow_model.specs.Plans.{start_of}
use Rattle.flow_model.proofs.Fits.{Fit-start, Fit-leads}
use Rattle.flow_model.proofs.Judging.{one-verdict}
use Rattle.flow_model.proofs.laws.every_schedule_ends_in_one_verdict.Goals as goal

pub returns : goal.returns
returns g c = λ plan components journal s well leads.
    one-verdict g.K.Component.rules s
    (Fit-leads g.K.Component.rules g.met.K.Component.lawful (start_of plan components) journal s (Fit-start g.K.Component.rules plan components well) leads)
