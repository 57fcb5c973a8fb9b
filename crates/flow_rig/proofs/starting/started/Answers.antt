use Rattle.std.proofs.Common.{◌≡◌, Err, rules, ap}
use Rattle.flow_rig.specs.declared.network.TrialStop.{TrialStop}
use Rattle.flow_rig.specs.declared.network.TrialStop.TheVariants.{Refused}
use Rattle.flow_rig.proofs.starting.started.Goals as goal

pub returns-in_err-plan-clause-refused : goal.returns-in_err-plan-clause-refused
returns-in_err-plan-clause-refused c = λ is plan of.
    let same : c.in_err-plan.field-0.0 ≡ Refused = search rules in
    c.in_err-plan.ensures.refused (ap (λ (stop : TrialStop). Err stop) same) plan of
