use Rattle.flow_cycle.proofs.Nets.{finds-cycle}
use Rattle.flow_report.proofs.Tells.{reports-tell}
use Rattle.flow_report.proofs.states.a_report_tells_of_its_state.Goals as goal

pub returns : goal.returns
returns g c =
    reports-tell g.K.Component.rules (
    finds-cycle g.K.Component.rules g.met.K.Component.lawful
    )
