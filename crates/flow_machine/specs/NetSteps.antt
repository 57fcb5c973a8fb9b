-- How the states that a net stands for go on.
use Rattle.std.specs.Prelude.{◌≡◌, ℕ, Some, slice_get, slice_set, IfSome}
use Rattle.flow_component.specs.Laws.{Rules}
use Rattle.flow_model.specs.States.{State}
use Rattle.flow_model.specs.Events.{Event}
use Rattle.flow_model.specs.Turns.{Turn}
use Rattle.flow_model.specs.Stands.{StandsForOpen}
use Rattle.flow_model.specs.Fit.{Fit}
use Rattle.flow_machine.specs.Values.{BodyValue, NetValue, shown_net}
use Rattle.flow_machine.specs.Thoughts.{Thinks, KeepsTurns, IsSet}
use Rattle.flow_machine.specs.declared.answers.Thought.{Thought}

-- Each fit state that the net stood for goes on by this turn of process p to one that it stands for now.
abbrev pub GoesByTurn : {K : Type 0} → Rules K → NetValue K → ℕ → Event → NetValue K → Type 0
GoesByTurn {K} rules old p event new = (s : State K) → Fit rules s → StandsForOpen (shown_net old) s → (s' : State K) × Turn s p event s' × Fit rules s' × StandsForOpen (shown_net new) s'

-- Process p of the net is set.
abbrev pub IsSetIn : {K : Type 0} → NetValue K → ℕ → Type 0
IsSetIn {K} net p = IfSome (slice_get net.bodies p) (λ (b : BodyValue K). IsSet b)

-- A thought of process p: its body thinks, and all else stays.
pub record ThinksNet {K : Type 0} (rules : Rules K) (old : NetValue K) (p : ℕ) (answer : Thought) (new : NetValue K) : Type 0 where
  pub before : BodyValue K
  pub after : BodyValue K
  pub there : slice_get old.bodies p ≡ Some before
  pub thinks : Thinks rules before answer after
  pub keeps : KeepsTurns before after
  pub bodies : new.bodies ≡ slice_set old.bodies p after
  pub channels : new.channels ≡ old.channels
  pub connections : new.connections ≡ old.connections
