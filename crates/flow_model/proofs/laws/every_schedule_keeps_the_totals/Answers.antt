use Rattle.flow_model.specs.Plans.{start_of}
use Rattle.flow_model.proofs.Fits.{Fit-start, Fit-leads}
use Rattle.std.proofs.Common.{arith}
use Rattle.flow_model.proofs.Totals.{totals-add_up}
use Rattle.flow_model.proofs.laws.every_schedule_keeps_the_totals.Goals as goal

pub returns : goal.returns
returns g c = λ plan components journal s well leads.
    (let fit = (Fit-leads g.K.Component.rules g.met.K.Component.lawful (start_of plan components) journal s (Fit-start g.K.Component.rules plan components well) leads) in
    totals-add_up s (λ p x there. (let good = fit.valid.each p x there in omega (arith, good.made, good.turns))) fit.valid.one_place)
