-- What an effect does to the process that makes a turn.
use Rattle.std.specs.Prelude.{◌≡◌, ℕ, ◌<◌, Bool, true, false, List, [], ◌∷◌, ◌++◌, ◌+◌, ◌-◌, ◌^◌, length, min, IsTrue, Option, Some, None, slice_get, slice_set, slice_index}
use Rattle.flow_packet.specs.declared.packet.Kind.{Kind}
use Rattle.flow_packet.specs.Tree.{ids}
use Rattle.flow_packet.specs.Held.{Sound, with_packet}
use Rattle.flow_component.specs.declared.Port.{Port}
use Rattle.flow_component.specs.declared.Answer.TheVariants as answers
use Rattle.flow_component.specs.declared.Wish.{Wish}
use Rattle.flow_component.specs.declared.Wish.TheVariants as wishes
use Rattle.flow_model.specs.declared.Stage.{Stage}
use Rattle.flow_model.specs.declared.Stage.TheVariants as stages
use Rattle.flow_model.specs.States.{Input, From, Text, Process}
use Rattle.flow_model.specs.Events.{Event, Starts, Finishes, Gets, Takes_text, Hears_end, Learns, Sleeps, Closes, Signals, is_fresh}
use Rattle.flow_model.specs.Turns.{process_after, at_stage, depth_after}
use Rattle.flow_model.specs.Works.{nests}
use Rattle.flow_machine.specs.Values.{BodyValue}
use Rattle.flow_machine.specs.declared.answers.Effect.{Effect}
use Rattle.flow_machine.specs.declared.answers.Effect.TheVariants as effects

-- The port that a wish names, and 0 where it names none.
abbrev pub port_of : Wish → ℕ
port_of (wishes.Receive port) = port.0
port_of (wishes.Send port id) = port.0
port_of (wishes.Level port) = port.0
port_of wishes.Deactivate = 0

-- The port that a wish names.
abbrev pub port_at : Stage → ℕ
port_at (stages.Wishing wish) = port_of wish
port_at stage = 0

-- A receive on a port with an initial text takes it where it is fresh, and else hears the end.
abbrev pub text_event : ℕ → Bool → Option Input → Event
text_event port true (Some (Text text)) = Takes_text port text
text_event port true (Some (From c)) = Hears_end port
text_event port true None = Hears_end port
text_event port false input = Hears_end port

-- The depth at the port, after a packet of this kind was sent there, if one was.
abbrev pub depths_sent : List ℕ → ℕ → Option Kind → List ℕ
depths_sent depths port (Some kind) = slice_set depths port (depth_after kind (slice_index depths port))
depths_sent depths port None = depths

-- A packet of this kind, if there is one, may be sent there: the port is there, and the packet nests.
abbrev pub CanDeepen : List ℕ → ℕ → Option Kind → Type 0
CanDeepen depths port (Some kind) = (port < length depths) × (slice_index depths port + 1 < 2 ^ 64) × IsTrue (nests kind (slice_index depths port))
CanDeepen depths port None = Unit {0}

-- The process after its turn, where the packet that it sends, if any, has left its hands already: what the turns of the machine do to it. A
-- process after a turn doesn't depend on the number of the connection.
abbrev pub effected : {K : Type 0} → Process K → Option Kind → Effect → Process K
effected x leaving effects.Start = process_after x Starts
effected x leaving effects.ToClosing = process_after x Finishes
effected x leaving (effects.Got packet) = process_after x (Gets (port_at x.stage) 0 packet)
effected x leaving effects.End = process_after x (Hears_end (port_at x.stage))
effected x leaving effects.Initial = process_after x (text_event (port_at x.stage) (is_fresh x (port_at x.stage)) (slice_get x.inputs (port_at x.stage)))
effected x leaving effects.Sent = record (at_stage x (stages.Told answers.Sent)) { depths = depths_sent x.depths (port_at x.stage) leaving }
effected x leaving (effects.Level n) = process_after x (Learns (port_at x.stage) n)
effected x leaving effects.Deactivate = process_after x Sleeps
effected x leaving effects.Closed = process_after x (Closes 0 0)
effected x leaving (effects.Signal packet) = process_after x (Signals 0 packet)

-- The level numbers that a turn with this effect and stamp adds.
abbrev pub levels_by : Effect → ℕ → List (ℕ × ℕ)
levels_by (effects.Level n) stamp = (stamp, n) ∷ []
levels_by effect stamp = []

-- The count of the dropped after a turn with this effect: a packet that came at an automatic input is dropped, with its tree.
abbrev pub drops_by : Effect → ℕ → ℕ
drops_by (effects.Signal packet) n = min (n + length (ids packet)) (2 ^ 64 - 1)
drops_by effect n = n

-- The process wishes to receive, to send or to ask a level.
abbrev pub WishesReceive : Stage → Type 0
WishesReceive stage = (port : Port) × (stage ≡ stages.Wishing (wishes.Receive port))

-- It wishes to send.
abbrev pub WishesSend : Stage → Type 0
WishesSend stage = (port : Port) × (id : ℕ) × (stage ≡ stages.Wishing (wishes.Send port id))

-- It wishes to learn a level.
abbrev pub WishesLevel : Stage → Type 0
WishesLevel stage = (port : Port) × (stage ≡ stages.Wishing (wishes.Level port))

-- It wishes to receive at an input with an initial text.
abbrev pub WishesText : {K : Type 0} → Process K → Type 0
WishesText x = (port : Port) × (text : List ℕ) × (x.stage ≡ stages.Wishing (wishes.Receive port)) × (slice_get x.inputs port.0 ≡ Some (Text text))

-- It closes its outputs.
abbrev pub IsClosing : Stage → Type 0
IsClosing stage = (i : ℕ) × (stage ≡ stages.Closing i)

-- The effect is one of the process's case: a packet that is got leaves the hands sound, a packet that is sent has left them, and a level is below 65,536.
abbrev pub IsEffectFor : {K : Type 0} → Process K → Option Kind → Effect → Type 0
IsEffectFor x leaving (effects.Got packet) = (leaving ≡ None) × WishesReceive x.stage × Sound (with_packet x.held packet)
IsEffectFor x leaving effects.End = (leaving ≡ None) × WishesReceive x.stage
IsEffectFor x leaving effects.Initial = (leaving ≡ None) × WishesText x
IsEffectFor x leaving effects.Sent = (kind : Kind) × (leaving ≡ Some kind) × WishesSend x.stage
IsEffectFor x leaving (effects.Level n) = (leaving ≡ None) × WishesLevel x.stage × (n < 65536)
IsEffectFor x leaving effects.Deactivate = (leaving ≡ None) × (x.stage ≡ stages.Wishing wishes.Deactivate)
IsEffectFor x leaving effects.Closed = (leaving ≡ None) × IsClosing x.stage
IsEffectFor x leaving effects.Start = (leaving ≡ None) × (x.stage ≡ stages.Idle)
IsEffectFor x leaving effects.ToClosing = (leaving ≡ None) × (x.stage ≡ stages.Idle)
IsEffectFor x leaving (effects.Signal packet) = (leaving ≡ None) × (x.stage ≡ stages.Idle)

-- The id of the packet that the process at this stage wishes to send, if it wishes to send one.
abbrev pub id_wished : Wish → Option ℕ
id_wished (wishes.Send port id) = Some id
id_wished wish = None

-- The packet that it wishes to send.
abbrev pub id_sent : Stage → Option ℕ
id_sent (stages.Wishing wish) = id_wished wish
id_sent stage = None

-- The body takes a turn with this effect and stamp: the process and the count of the dropped change as it does, the stamp and the level number, if there
-- is one, are added.
pub record TakesTurn {K : Type 0} (old : BodyValue K) (effect : Effect) (stamp : ℕ) (new : BodyValue K) : Type 0 where
  pub process : new.process ≡ effected old.process old.leaving effect
  pub dropped : new.dropped ≡ drops_by effect old.dropped
  pub leaving : new.leaving ≡ None
  pub stamps : new.stamps ≡ old.stamps ++ stamp ∷ []
  pub levels : new.levels ≡ old.levels ++ levels_by effect stamp
