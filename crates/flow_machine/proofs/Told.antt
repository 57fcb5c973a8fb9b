-- Who is over and set was told its end.
use Rattle.std.proofs.Common.{◌≡◌, ℕ, true, Some, slice_get}
use Rattle.flow_model.specs.declared.Stage.{Stage}
use Rattle.flow_model.specs.declared.Stage.TheVariants as stages
use Rattle.flow_model.specs.Stages.{IsOverStage}
use Rattle.flow_machine.specs.Quiet.{EndedAreTold}
use Rattle.flow_machine.specs.Starts.{AllSet}
use Rattle.flow_machine.specs.Thoughts.{IsNotOver, IsSetAt}
use Rattle.flow_machine.specs.Values.{BodyValue, NetValue}

-- A body that is over and set.
pub told-at : {K : Type 0} (b : BodyValue K) (stage : Stage) → IsOverStage stage → IsSetAt b stage → b.told_end ≡ true
told-at b stages.Ended over set = set
told-at b (stages.Failed cause) over set = set
told-at b stages.Idle over set = absurd over
told-at b (stages.Told answer) over set = absurd over
told-at b (stages.Wishing wish) over set = absurd over
told-at b (stages.Closing i) over set = absurd over

-- What isn't over is not over.
pub not-both : (stage : Stage) → IsOverStage stage → IsNotOver stage → ⊥
not-both stages.Ended over not_over = not_over
not-both (stages.Failed cause) over not_over = not_over
not-both stages.Idle over not_over = over
not-both (stages.Told answer) over not_over = over
not-both (stages.Wishing wish) over not_over = over
not-both (stages.Closing i) over not_over = over

-- Where each body is set, those that are over were told.
pub all-told : {K : Type 0} (net : NetValue K) → AllSet net.bodies → EndedAreTold net
all-told net set p b there over = told-at b b.process.stage over (set p b there)
