-- What a call for a turn tells. Here n is the number of processes, m that of connections, `start` the net that was opened, and `old` and `new` are the
-- worker's view before and after the call.
use Rattle.std.specs.Prelude.{◌≡◌, ℕ, ◌<◌, ◌≤◌, true, false, List, [], ◌∷◌, ◌++◌, Option, Some, None, slice_index}
use Rattle.flow_component.specs.Laws.{Rules}
use Rattle.flow_model.specs.declared.Block.{Block}
use Rattle.flow_model.specs.declared.Block.TheVariants as blocks
use Rattle.flow_model.specs.States.{Process, output_at}
use Rattle.flow_model.specs.Events.{Event, Learns}
use Rattle.flow_model.specs.Verdicts.{waits_for}
use Rattle.flow_machine.specs.declared.answers.Case.{Case}
use Rattle.flow_machine.specs.declared.answers.Case.TheVariants as cases
use Rattle.flow_machine.specs.Answers.{case_of}
use Rattle.flow_machine.specs.Nets.{BodyTurn}
use Rattle.flow_machine.specs.Values.{BodyValue, NetValue}
use Rattle.flow_ring.specs.Words.{level_in, senders_in}
use Rattle.flow_floor.specs.Made.{Below}
use Rattle.flow_floor.specs.Turning.{MachineTurn}
use Rattle.flow_floor.specs.declared.board.Look.{Look}
use Rattle.flow_floor.specs.declared.board.View.{View}
use Rattle.flow_floor.specs.declared.floor.Held.{Held}
use Rattle.flow_floor.specs.declared.floor.Worker.{Worker}
use Rattle.flow_floor.specs.declared.floor.Turned.{Turned}
use Rattle.flow_floor.specs.declared.floor.Turned.TheVariants as turned
use Rattle.flow_floor.specs.Ends.{capacities_of, is_shared}
use Rattle.flow_floor.specs.Looks.{InSeen, IsLook, IsDormant}
use Rattle.flow_ring.specs.Places.{gate_rank}
use Rattle.flow_floor.specs.Workers.{view, SeenBlocks}

-- The connection into which a turn sends, whose level it asks for, or which it closes.
abbrev pub output_of_case : Option Case → Option ℕ
output_of_case (Some (cases.Send c port)) = Some c
output_of_case (Some (cases.Level c port)) = Some c
output_of_case (Some (cases.Close c)) = Some c
output_of_case (Some (cases.Receive c port)) = None
output_of_case (Some cases.Idle) = None
output_of_case (Some (cases.Initial port)) = None
output_of_case (Some cases.Deactivate) = None
output_of_case (Some (cases.Over over)) = None
output_of_case None = None

-- It read the word w at the gate of connection c.
abbrev pub IsGateLook : ℕ → ℕ → ℕ → ℕ → ℕ → Look → Type 0
IsGateLook n m since c w look = (look.word ≡ gate_rank n m c) × (look.read ≡ w) × (since < look.at)

-- The level words that were read after so many steps block a process so, and w is among them: the connection is empty and has an open sender; it is full,
-- where these are the capacities; or each input that the process watches is empty, and w is the word of the lowest one that has an open sender.
abbrev pub ReadBlocks : {K : Type 0} → ℕ → ℕ → List ℕ → Process K → List Look → Block → ℕ → Type 0
ReadBlocks n since capacities x seen (blocks.Empty c port) w = InSeen (IsLook n since c w) seen × (level_in w ≡ 0) × (0 < senders_in w)
ReadBlocks n since capacities x seen (blocks.Full c port) w = InSeen (IsLook n since c w) seen × (slice_index capacities c ≤ level_in w)
ReadBlocks n since capacities x seen blocks.Dormant w = IsDormant n since x seen w

module _ {K : Type 0} where
  -- Another worker is at the sending end of the connection of this turn, into which several send: the call's last look read 1 at its gate, while this
  -- worker was at no sending end.
  pub record IsBusy (n m : ℕ) (start : NetValue K) (b : BodyValue K) (old new : View K) (c w : ℕ) : Type 0 where
    pub turn : output_of_case (case_of b.process) ≡ Some c
    pub several : is_shared start c ≡ true
    pub look : IsGateLook n m old.steps c w new.look
    pub free : new.look.holding ≡ false
    pub taken : w ≡ 1

  -- The process waits for this, and by the words that the call read it has to.
  pub record IsBlocked (n : ℕ) (start : NetValue K) (b : BodyValue K) (old new : View K) (block : Block) (w : ℕ) : Type 0 where
    pub waits : waits_for b.process b.process.stage ≡ Some block
    pub read : ReadBlocks n old.steps (capacities_of start) b.process new.seen block w
    pub stays : SeenBlocks start b new.seen

  -- A turn that asks for a level is told the one in the word that the call read, as its last look shows.
  abbrev pub ToldLevel : ℕ → BodyValue K → View K → View K → Event → Type 0
  ToldLevel n b old new (Learns port level) = (c : ℕ) × (w : ℕ) × (output_at b.process port ≡ Some c) × IsLook n old.steps c w new.look × (level ≡ level_in w)
  ToldLevel n b old new event = Unit {0}

  -- The held body made the machine's turn of this stamp, in the history in which the turns that its worker had made stand; it is above all their stamps.
  pub record IsMade (rules : Rules K) (n : ℕ) (start : NetValue K) (h : Held K) (w : Worker K) (h' : Held K) (w' : Worker K) (stamp : ℕ) : Type 0 where
    pub process : h'.process ≡ h.process
    pub event : Event
    pub turn : BodyTurn h.body event stamp h'.body
    pub machine : MachineTurn rules start (view w).made stamp h.process h.body event
    pub made : (view w').made ≡ (view w).made ++ (stamp, h.process) ∷ []
    pub above : Below stamp (view w).made
    pub level : ToldLevel n h.body (view w) (view w') event

  -- It made none, and is as it was.
  abbrev pub IsUnmade : Held K → Worker K → Held K → Worker K → Type 0
  IsUnmade h w h' w' = (h' ≡ h) × ((view w').made ≡ (view w).made)

  -- What holds of an answer: the turn was made; or none was, since another worker is at its sending end, the process is blocked, or it is over.
  abbrev pub Turns : Rules K → ℕ → ℕ → NetValue K → Held K → Worker K → Held K → Worker K → Turned → Type 0
  Turns rules n m start h w h' w' (turned.Made stamp) = IsMade rules n start h w h' w' stamp
  Turns rules n m start h w h' w' (turned.Busy c word) = IsUnmade h w h' w' × IsBusy n m start h.body (view w) (view w') c word
  Turns rules n m start h w h' w' (turned.Blocked block word) = IsUnmade h w h' w' × IsBlocked n start h.body (view w) (view w') block word
  Turns rules n m start h w h' w' (turned.Over over) = IsUnmade h w h' w' × (case_of h.body.process ≡ Some (cases.Over over))
