use Rattle.flow_report.proofs.OneReport.{one-report}
use Rattle.flow_report.proofs.states.a_state_has_one_report.Goals as goal

pub returns : goal.returns
returns g c = λ s. one-report s
