-- What was read of connections. Here n is the number of processes, and `since` a number of steps of the seat: only looks after so many steps count.
use Rattle.std.specs.Prelude.{◌≡◌, ℕ, ◌+◌, ◌<◌, ◌==◌, if◌then◌else◌, ◌⊎◌, true, false, List, [], ◌∷◌, length, Option, Some, None, slice_get}
use Rattle.std.specs.List.{list_any}
use Rattle.flow_model.specs.States.{Input, From, Process}
use Rattle.flow_model.specs.Events.{is_connected}
use Rattle.flow_machine.specs.Inlets.{signal_input}
use Rattle.flow_ring.specs.Words.{level_in, senders_in}
use Rattle.flow_floor.specs.declared.board.Look.{Look}
use Rattle.flow_floor.specs.declared.floor.Saw.{Saw}
use Rattle.flow_floor.specs.declared.floor.Saw.TheVariants as saw
use Rattle.flow_floor.specs.declared.floor.Signalled.{Signalled}
use Rattle.flow_floor.specs.declared.floor.Signalled.TheVariants as signalled
use Rattle.flow_floor.specs.declared.floor.Idling.{Idling}
use Rattle.flow_floor.specs.declared.floor.Idling.TheVariants as idling
use Rattle.flow_floor.specs.Waking.{HasWorked}

-- Some look that was taken is such a one.
abbrev pub InSeen : (Look → Type 0) → List Look → Type 0
InSeen is [] = ⊥
InSeen is (look ∷ seen) = is look ⊎ InSeen is seen

-- It read the word w at connection c.
abbrev pub IsLook : ℕ → ℕ → ℕ → ℕ → Look → Type 0
IsLook n since c w look = (look.word ≡ n + c) × (look.read ≡ w) × (since < look.at)

-- It saw a packet at connection c.
abbrev pub SawPacket : ℕ → ℕ → ℕ → Look → Type 0
SawPacket n since c look = (look.word ≡ n + c) × (0 < level_in look.read) × (since < look.at)

-- It saw none there.
abbrev pub SawNone : ℕ → ℕ → ℕ → Look → Type 0
SawNone n since c look = (look.word ≡ n + c) × (level_in look.read ≡ 0) × (since < look.at)

-- It saw neither a packet nor an open sender there.
abbrev pub SawOver : ℕ → ℕ → ℕ → Look → Type 0
SawOver n since c look = (look.word ≡ n + c) × (level_in look.read ≡ 0) × (senders_in look.read ≡ 0) × (since < look.at)

-- Each connected input below m was seen so.
abbrev pub AllSaw : (ℕ → Look → Type 0) → ℕ → List Input → List Look → Type 0
AllSaw saw m inputs seen = (i c : ℕ) → i < m → slice_get inputs i ≡ Some (From c) → InSeen (saw c) seen

-- Some connected input was seen so.
abbrev pub SawOne : (ℕ → Look → Type 0) → List Input → List Look → Type 0
SawOne saw inputs seen = (i : ℕ) × (c : ℕ) × (slice_get inputs i ≡ Some (From c)) × InSeen (saw c) seen

-- The lowest connected input with an open sender was read as w, and is empty; those below it are over.
pub record FirstOpen (n since : ℕ) (inputs : List Input) (seen : List Look) (w : ℕ) : Type 0 where
  pub input : ℕ
  pub connection : ℕ
  pub at : slice_get inputs input ≡ Some (From connection)
  pub look : InSeen (IsLook n since connection w) seen
  pub none_in : level_in w ≡ 0
  pub opened : 0 < senders_in w
  pub below : AllSaw (SawOver n since) input inputs seen

-- What a look over the inputs came to: one holds a packet; all are empty, and this is the word of the lowest with an open sender; or all are over.
abbrev pub Saws : ℕ → ℕ → List Input → List Look → Saw → Type 0
Saws n since inputs seen saw.Packet = SawOne (SawPacket n since) inputs seen
Saws n since inputs seen (saw.Sender w) = AllSaw (SawNone n since) (length inputs) inputs seen × FirstOpen n since inputs seen w
Saws n since inputs seen saw.Over = AllSaw (SawOver n since) (length inputs) inputs seen

-- Each of these inputs that has a connection was seen over.
abbrev pub SawEnd : ℕ → ℕ → List Input → List Look → Type 0
SawEnd n since inputs seen = AllSaw (SawOver n since) (length inputs) inputs seen

-- An idle process is released: a packet came at its automatic input before, or that was seen over, if it has one.
abbrev pub SawReleased : {K : Type 0} → ℕ → ℕ → Process K → List Look → Type 0
SawReleased n since x seen = (x.signalled ≡ true) ⊎ SawEnd n since (signal_input x.signal) seen

-- What was found at this automatic input: a packet came out of it; or none is there, and this is its word, with an open sender; or it is over, or has no
-- connection.
abbrev pub Finds : ℕ → ℕ → Option ℕ → List Look → Signalled → Type 0
Finds n since signal seen (signalled.Packet c packet) = signal ≡ Some c
Finds n since signal seen (signalled.Sender w) = Saws n since (signal_input signal) seen (saw.Sender w)
Finds n since signal seen signalled.Over = Saws n since (signal_input signal) seen saw.Over

-- What a look for its release came to: it isn't released, and this was found at its automatic input; or it is.
abbrev pub FindsHeld : {K : Type 0} → ℕ → ℕ → Process K → List Look → Signalled → Type 0
FindsHeld n since x seen (signalled.Packet c packet) = (x.signalled ≡ false) × Finds n since x.signal seen (signalled.Packet c packet)
FindsHeld n since x seen (signalled.Sender w) = (x.signalled ≡ false) × Finds n since x.signal seen (signalled.Sender w)
FindsHeld n since x seen signalled.Over = SawReleased n since x seen

-- An idle process waits at its automatic input alone: no packet came there before, or its stream inputs were seen over, if it has some or has run.
abbrev pub WaitsAlone : {K : Type 0} → ℕ → ℕ → Process K → List Look → Type 0
WaitsAlone n since x seen = (x.signalled ≡ false) ⊎ (SawEnd n since x.inputs seen × HasWorked x)

-- These are the inputs that an idle process watches: its automatic input alone; or its stream inputs, where it is released.
abbrev pub Watches : {K : Type 0} → ℕ → ℕ → Process K → List Look → List Input → Type 0
Watches n since x seen inputs = ((inputs ≡ signal_input x.signal) × WaitsAlone n since x seen) ⊎ ((inputs ≡ x.inputs) × SawReleased n since x seen)

-- An idle process is dormant: each input that it watches was seen empty, and w is the word of the lowest one that has an open sender.
pub record IsDormant {K : Type 0} (n since : ℕ) (x : Process K) (seen : List Look) (w : ℕ) : Type 0 where
  pub inputs : List Input
  pub watches : Watches n since x seen inputs
  pub none_in : AllSaw (SawNone n since) (length inputs) inputs seen
  pub first : FirstOpen n since inputs seen w

-- What an idle process does by what was looked at. It takes the packet that came out of its automatic input where it waits there alone; it starts where it
-- is released, and a packet was seen at a stream input, or it has none and hasn't run; it goes to its end where all was seen over.
abbrev pub Idles : {K : Type 0} → ℕ → ℕ → Process K → List Look → Idling → Type 0
Idles n since x seen (idling.Signal c packet) = (x.signal ≡ Some c) × WaitsAlone n since x seen
Idles n since x seen (idling.Dormant w) = IsDormant n since x seen w
Idles n since x seen idling.Start = SawReleased n since x seen × (SawOne (SawPacket n since) x.inputs seen ⊎ ((list_any is_connected x.inputs ≡ false) × (x.has_run ≡ false)))
Idles n since x seen idling.Finish = SawEnd n since x.inputs seen × SawEnd n since (signal_input x.signal) seen × HasWorked x

-- The word that was found before, or else this one, if it has an open sender.
abbrev pub first_open : Option ℕ → ℕ → Option ℕ
first_open (Some found) word = Some found
first_open None word = if senders_in word == 0 then None else Some word

-- What is found among the inputs below m: the word of the lowest with an open sender, or that all are over.
abbrev pub FoundOpen : ℕ → ℕ → ℕ → List Input → List Look → Option ℕ → Type 0
FoundOpen n since m inputs seen (Some w) = FirstOpen n since inputs seen w
FoundOpen n since m inputs seen None = AllSaw (SawOver n since) m inputs seen

-- What is known once the inputs below m were looked at, none of which held a packet.
pub record Looked (n since m : ℕ) (inputs : List Input) (seen : List Look) (found : Option ℕ) : Type 0 where
  pub none_in : AllSaw (SawNone n since) m inputs seen
  pub opened : FoundOpen n since m inputs seen found
