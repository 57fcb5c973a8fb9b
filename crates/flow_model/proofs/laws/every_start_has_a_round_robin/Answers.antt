use Rattle.flow_model.specs.Plans.{start_of}
use Rattle.flow_model.proofs.Fits.{Fit-start}
use Rattle.flow_model.proofs.SomeRobin.{some-robin, only-robin}
use Rattle.flow_model.proofs.laws.every_start_has_a_round_robin.Goals as goal

pub returns-clause-some : goal.returns-clause-some
returns-clause-some g c = λ plan components well.
    some-robin g.K.Component.rules g.met.K.Component.lawful
    (start_of plan components) (Fit-start g.K.Component.rules plan components well)

pub returns-clause-one : goal.returns-clause-one
returns-clause-one g c = λ one plan components well.
    only-robin g.K.Component.rules g.met.K.Component.lawful
    one (start_of plan components) (Fit-start g.K.Component.rules plan components well)
