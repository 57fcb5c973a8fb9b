use Rattle.flow_determinate.proofs.Diamond.{one-end}
use Rattle.flow_determinate.proofs.quiet_schedules_end_in_one_state.Goals as goal

pub returns : goal.returns
returns g c = λ one may_ask only plan components well unmerged none journal other s t leads quiet leads' quiet'.
    one-end g.K.Component.rules g.met.K.Component.lawful one may_ask only
    plan components well unmerged none journal other s t leads quiet leads' quiet'
