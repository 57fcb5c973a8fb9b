use Rattle.flow_rounds.proofs.Tending.{rounds-reach, rounds-are-one}
use Rattle.flow_rounds.proofs.law.a_run_by_rounds_is_one_schedule.Goals as goal

pub returns-clause-reaches : goal.returns-clause-reaches
returns-clause-reaches g c = λ reading writing have files steps s s' each reach. rounds-reach g.K.Component.rules reading writing have files steps s s' each reach

pub returns-clause-schedule : goal.returns-clause-schedule
returns-clause-schedule g c = λ reading writing have files steps s s' each reach began ended. rounds-are-one g.K.Component.rules reading writing have files steps s s' each reach began ended
