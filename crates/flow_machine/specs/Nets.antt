-- What the calls of nets do.
use Rattle.std.specs.Prelude.{◌≡◌, ℕ, ◌&&◌, nat_le, Bool, true, false, List, [], ◌∷◌, ◌++◌, map, length, Option, Some, None, slice_get, slice_set, option_and_then, unwrap_or, IfSome}
use Rattle.flow_packet.specs.Tree.{Tree}
use Rattle.flow_packet.specs.Hands.{packet_at}
use Rattle.flow_packet.specs.Held.{Sound, with_packet}
use Rattle.flow_component.specs.declared.Port.{Port}
use Rattle.flow_component.specs.declared.Wish.TheVariants as wishes
use Rattle.flow_component.specs.declared.Fail.{Fail}
use Rattle.flow_model.specs.declared.Stage.{Stage}
use Rattle.flow_model.specs.declared.Stage.TheVariants as stages
use Rattle.flow_model.specs.declared.Block.{Block}
use Rattle.flow_model.specs.States.{Process, output_at}
use Rattle.flow_model.specs.Events.{Event, Learns, Look, event_from}
use Rattle.flow_model.specs.Turns.{process_after}
use Rattle.flow_model.specs.Verdicts.{block_of, exact_level}
use Rattle.flow_model.specs.Stands.{ChannelShown, look_shown, dropped_after, shown_after, all_shown_after}
use Rattle.flow_machine.specs.Values.{BodyValue, NetValue}
use Rattle.flow_machine.specs.Answers.{case_of}
use Rattle.flow_machine.specs.Effects.{id_sent}
use Rattle.flow_machine.specs.declared.answers.Case.{Case}
use Rattle.flow_machine.specs.declared.answers.Turn.{Turn as Answer}
use Rattle.flow_machine.specs.declared.answers.Turn.TheVariants as answers
use Rattle.flow_machine.specs.declared.answers.Over.TheVariants as overs

-- The connections, as a process sees them.
abbrev pub looks_of : List ChannelShown → List Look
looks_of channels = map look_shown channels

-- The level numbers that a turn with this stamp adds.
abbrev pub levels_told : Event → ℕ → List (ℕ × ℕ)
levels_told (Learns port level) stamp = (stamp, level) ∷ []
levels_told event stamp = []

-- A body takes the turn that is this event, with this stamp: its process and the count of the dropped change as the machine says, and it remembers the
-- stamp, and the number of a level.
pub record BodyTurn {K : Type 0} (old : BodyValue K) (event : Event) (stamp : ℕ) (new : BodyValue K) : Type 0 where
  pub process : new.process ≡ process_after old.process event
  pub dropped : new.dropped ≡ dropped_after event old.dropped
  pub leaving : new.leaving ≡ None
  pub stamps : new.stamps ≡ old.stamps ++ stamp ∷ []
  pub levels : new.levels ≡ old.levels ++ levels_told event stamp

-- What a turn of a body at one connection comes to, where this is the event that happens, if any, and this is what the body waits for otherwise.
abbrev pub PairTurns : {K : Type 0} → Option Event → Block → ℕ → BodyValue K → ChannelShown → Answer → BodyValue K → ChannelShown → Type 0
PairTurns found block stamp b channel (answers.Made s) b' channel' = (s ≡ stamp) × ((event : Event) × (found ≡ Some event) × BodyTurn b event stamp b' × (channel' ≡ shown_after event channel))
PairTurns found block stamp b channel (answers.Blocked w) b' channel' = (w ≡ block) × (found ≡ None) × (b' ≡ b) × (channel' ≡ channel)
PairTurns found block stamp b channel (answers.Over over) b' channel' = ⊥

-- What a turn of an idle body comes to, which may take a packet from one of all these connections.
abbrev pub WakeTurns : {K : Type 0} → Option Event → Block → ℕ → BodyValue K → List ChannelShown → Answer → BodyValue K → List ChannelShown → Type 0
WakeTurns found block stamp b channels (answers.Made s) b' channels' = (s ≡ stamp) × ((event : Event) × (found ≡ Some event) × BodyTurn b event stamp b' × (channels' ≡ all_shown_after event channels))
WakeTurns found block stamp b channels (answers.Blocked w) b' channels' = (w ≡ block) × (found ≡ None) × (b' ≡ b) × (channels' ≡ channels)
WakeTurns found block stamp b channels (answers.Over over) b' channels' = ⊥

-- The hands stay sound with the oldest of these packets.
abbrev pub GetsSound : {K : Type 0} → Process K → List Tree → Type 0
GetsSound x [] = Unit {0}
GetsSound x (packet ∷ packets) = Sound (with_packet x.held packet)

-- The process wishes to send at this port.
abbrev pub SendsAt : Stage → Port → Type 0
SendsAt stage port = (id : ℕ) × (stage ≡ stages.Wishing (wishes.Send port id))

-- The packet that it wishes to send.
abbrev pub packet_wished : {K : Type 0} → Process K → Option Tree
packet_wished x = option_and_then (packet_at x.held.packets) (id_sent x.stage)

-- A net: the turn of process p is this event, where a level that is told is n.
pub record NetTurn {K : Type 0} (old : NetValue K) (p n : ℕ) (event : Event) (stamp : ℕ) (new : NetValue K) : Type 0 where
  pub before : BodyValue K
  pub after : BodyValue K
  pub there : slice_get old.bodies p ≡ Some before
  pub happens : event_from (looks_of old.channels) before.process n ≡ Some event
  pub turn : BodyTurn before event stamp after
  pub bodies : new.bodies ≡ slice_set old.bodies p after
  pub channels : new.channels ≡ all_shown_after event old.channels
  pub connections : new.connections ≡ old.connections

-- The block of process p.
abbrev pub block_at : {K : Type 0} → NetValue K → ℕ → Option Block
block_at net p = option_and_then (λ (b : BodyValue _). block_of (looks_of net.channels) b.process) (slice_get net.bodies p)

-- The number of packets where process p asks for a level.
abbrev pub level_of : {K : Type 0} → NetValue K → ℕ → ℕ
level_of net p = unwrap_or (option_and_then (λ (b : BodyValue _). Some (exact_level (looks_of net.channels) b.process)) (slice_get net.bodies p)) 0

-- Process p is at a stage.
abbrev pub IsAt : {K : Type 0} → NetValue K → ℕ → (Stage → Type 0) → Type 0
IsAt net p P = IfSome (slice_get net.bodies p) (λ (b : BodyValue _). P b.process.stage)

-- The process at this stage has failed.
abbrev pub HasFailed : Stage → Type 0
HasFailed stage = (cause : Fail) × (stage ≡ stages.Failed cause)

-- What a turn of process p answers, where a level that is told is n: the turn was made, which is the machine's; or nothing changed, since the
-- process is blocked or over.
abbrev pub TurnsNet : {K : Type 0} → NetValue K → ℕ → ℕ → ℕ → Answer → NetValue K → Type 0
TurnsNet old p n stamp (answers.Made s) new = (s ≡ stamp) × ((event : Event) × NetTurn old p n event stamp new)
TurnsNet old p n stamp (answers.Blocked block) new = (block_at old p ≡ Some block) × (new ≡ old)
TurnsNet old p n stamp (answers.Over overs.Ended) new = IsAt old p (λ stage. stage ≡ stages.Ended) × (new ≡ old)
TurnsNet old p n stamp (answers.Over overs.Failed) new = IsAt old p HasFailed × (new ≡ old)
TurnsNet old p n stamp (answers.Over overs.Starved) new = ⊥

-- Process p has this case.
abbrev pub HasCase : {K : Type 0} → NetValue K → ℕ → Case → Type 0
HasCase net p case = IfSome (slice_get net.bodies p) (λ (b : BodyValue _). case_of b.process ≡ Some case)

-- The connection takes no further packet.
abbrev pub is_full : ChannelShown → Bool
is_full channel = nat_le channel.capacity (length channel.packets)

-- A process at this stage asks for a level.
abbrev pub is_asking : Stage → Bool
is_asking (stages.Wishing (wishes.Level port)) = true
is_asking stage = false

-- It wishes to learn a level.
abbrev pub asks_level : Stage → Type 0
asks_level stage = is_asking stage ≡ true

-- Process p asks for a level at a connection, and this number doesn't lie from the packets that are there to the capacity.
pub record RefusesLevel {K : Type 0} (net : NetValue K) (p n : ℕ) : Type 0 where
  pub body : BodyValue K
  pub port : Port
  pub connection : ℕ
  pub channel : ChannelShown
  pub there : slice_get net.bodies p ≡ Some body
  pub asks : body.process.stage ≡ stages.Wishing (wishes.Level port)
  pub output : output_at body.process port.0 ≡ Some connection
  pub at : slice_get net.channels connection ≡ Some channel
  pub outside : (nat_le (length channel.packets) n && nat_le n channel.capacity) ≡ false

-- What a turn of process p that is told n answers: the turn was made; or nothing changed, since that number can't be told.
abbrev pub SeesNet : {K : Type 0} → NetValue K → ℕ → ℕ → ℕ → Option Answer → NetValue K → Type 0
SeesNet old p n stamp (Some answer) new = (answer ≡ answers.Made stamp) × TurnsNet old p n stamp answer new
SeesNet old p n stamp None new = RefusesLevel old p n × (new ≡ old)
