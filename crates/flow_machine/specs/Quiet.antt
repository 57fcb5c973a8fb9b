-- What is told of a net in which nobody has anything left to do.
use Rattle.std.specs.Prelude.{◌≡◌, ℕ, List, All, true, Some, slice_get}
use Rattle.flow_model.specs.States.{State}
use Rattle.flow_model.specs.Stages.{IsThoughtStage, IsOverStage}
use Rattle.flow_model.specs.Verdicts.{Quiet}
use Rattle.flow_model.specs.Stands.{StandsForOpen}
use Rattle.flow_machine.specs.Thoughts.{IsUnset}
use Rattle.flow_machine.specs.Values.{BodyValue, NetValue, shown_net}

-- Each of these processes of the net isn't set.
abbrev pub AllUnset : {K : Type 0} → NetValue K → List ℕ → Type 0
AllUnset {K} net starved = All (λ p. (b : BodyValue K) × (slice_get net.bodies p ≡ Some b) × IsUnset b) starved

-- Each body of a process that has ended or failed was told its end: no component of one is live.
abbrev pub EndedAreTold : {K : Type 0} → NetValue K → Type 0
EndedAreTold {K} net = (p : ℕ) (b : BodyValue K) → slice_get net.bodies p ≡ Some b → IsOverStage b.process.stage → b.told_end ≡ true

-- No work is pending in the net, and each state that it stands for is quiet.
pub record IsQuietNet {K : Type 0} (net : NetValue K) : Type 0 where
  pub thought : (p : ℕ) (b : BodyValue K) → slice_get net.bodies p ≡ Some b → IsThoughtStage b.process.stage
  pub quiet : (t : State K) → StandsForOpen (shown_net net) t → Quiet t
