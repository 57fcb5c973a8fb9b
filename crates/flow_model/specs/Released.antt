-- What automatic inputs do: a process knows whether a packet came there, none is started before it is released, and one that has ended left
-- nothing there. (This project's own.)
use Rattle.std.specs.Prelude.{◌≡◌, ◌≢◌, ◌⊎◌, ℕ, ◌<◌, not, List, [], Some, slice_get}
use Rattle.flow_component.specs.Laws.{Rules}
use Rattle.flow_component.specs.Runs.{starts}
use Rattle.flow_model.specs.declared.Stage.TheVariants as stages
use Rattle.flow_model.specs.States.{Process, Channel, State}
use Rattle.flow_model.specs.Events.{is_empty}
use Rattle.flow_model.specs.Order.{entries}
use Rattle.flow_model.specs.Schedules.{Journal, Leads}
use Rattle.flow_model.specs.Plans.{start_of, StartsWell}
use Rattle.flow_plan.specs.Network.{Network as Plan}

-- Each process has noted that a packet came at its automatic input exactly where one did.
abbrev pub SignalsTell : {K : Type 0} → State K → Type 0
SignalsTell {K} s = (p : ℕ) (x : Process K) → slice_get s.kept.processes p ≡ Some x → x.signalled ≡ not (is_empty (s.past.signals p))

-- The connection is there, is empty and has no open sender.
pub record NothingComes (channels : List Channel) (c : ℕ) : Type 0 where
  pub channel : Channel
  pub there : slice_get channels c ≡ Some channel
  pub empty : channel.packets ≡ []
  pub closed : channel.open_senders ≡ []

-- A packet came at the automatic input of the process, or none comes there any more, if it has a connection.
abbrev pub WasReleased : {K : Type 0} → State K → ℕ → Process K → Type 0
WasReleased s p x = (s.past.signals p ≢ []) ⊎ ((c : ℕ) → x.signal ≡ Some c → NothingComes s.kept.channels c)

-- Each process that was started was released.
abbrev pub StartedReleased : {K : Type 0} → State K → Type 0
StartedReleased {K} s = (p : ℕ) (x : Process K) → slice_get s.kept.processes p ≡ Some x → 0 < starts (s.past.told p) → WasReleased s p x

-- A process that has ended took, at its automatic input, all that was put into the connection there.
abbrev pub EndedTookSignals : {K : Type 0} → State K → Type 0
EndedTookSignals {K} s = (p c : ℕ) (x : Process K) → slice_get s.kept.processes p ≡ Some x → x.stage ≡ stages.Ended → x.signal ≡ Some c → entries (s.past.put c) ≡ s.past.signals p

-- All this holds after every schedule from a start.
abbrev pub KeepsReleased : {K : Type 0} → Rules K → Type 0
KeepsReleased {K} rules =
    (plan : Plan) (components : List K) (journal : Journal) (s : State K) → StartsWell rules plan components → Leads rules (start_of plan components) journal s → SignalsTell s × StartedReleased s × EndedTookSignals s
