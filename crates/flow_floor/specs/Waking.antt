-- The second half of the rule: who is woken, and when nothing is left to do.
use Rattle.std.specs.Prelude.{◌≡◌, ℕ, ◌+◌, ◌<◌, ◌≤◌, ◌⊎◌, true, List, [], ◌∷◌, length, slice_index, slice_get, sum_by, Some, None, Contains, ◌==◌, ◌||◌, if◌then◌else◌, zero, suc, false}
use Rattle.flow_limits.specs.declared.TheConstants.{WORKER_LIMIT}
use mathlib.Core.Option.{some}
use lib.ListN.{get_elem?}
use Rattle.std.specs.List.{list_any}
use Rattle.atomic_table.specs.Table.{State}
use Rattle.flow_component.specs.declared.Wish.TheVariants as wishes
use Rattle.flow_model.specs.Stages.{IsThoughtStage, IsOverStage}
use Rattle.flow_model.specs.Stands.{ChannelShown}
use Rattle.flow_model.specs.States.{Process, From, output_at}
use Rattle.flow_model.specs.Events.{is_connected}
use Rattle.flow_model.specs.declared.Stage.{Stage}
use Rattle.flow_model.specs.declared.Stage.TheVariants as stages
use Rattle.flow_machine.specs.Values.{BodyValue, NetValue}
use Rattle.flow_machine.specs.Thoughts.{IsNotOver, IsSet, IsUnset}
use Rattle.flow_ring.specs.Words.{level_in, senders_in}
use Rattle.flow_ring.specs.Places.{level_rank, live_rank}
use Rattle.flow_floor.specs.Wired.{IsInput, IsOutput}
use Rattle.flow_floor.specs.declared.board.Slot.{Slot}
use Rattle.flow_floor.specs.declared.board.View.{View}
use Rattle.flow_floor.specs.declared.board.Look.{Look}
use Rattle.flow_floor.specs.Ends.{capacities_of}
use Rattle.flow_floor.specs.Law.{Beside}

-- A process word counts where the process is ready or held, poked or not.
abbrev pub counts : ℕ → ℕ
counts w = if (w == 1) || ((w == 2) || (w == 3)) then 1 else 0

-- How many of the first n words count.
abbrev pub live_in : ℕ → List ℕ → ℕ
live_in zero words = 0
live_in (suc n) [] = 0
live_in (suc n) (w ∷ words) = counts w + live_in n words

-- A process word that says that the process is done; it may have been poked since.
abbrev pub IsDoneWord : ℕ → Type 0
IsDoneWord w = (w ≡ 4) ⊎ (w ≡ 6)

-- By the words the connection is empty.
abbrev pub IsEmptyAt : ℕ → List ℕ → ℕ → Type 0
IsEmptyAt n words c = level_in (slice_index words (n + c)) ≡ 0

-- By the words it has an open sender.
abbrev pub IsOpenAt : ℕ → List ℕ → ℕ → Type 0
IsOpenAt n words c = 0 < senders_in (slice_index words (n + c))

-- The process has a stream input, or has run.
abbrev pub HasWorked : {K : Type 0} → Process K → Type 0
HasWorked x = (list_any is_connected x.inputs ≡ true) ⊎ (x.has_run ≡ true)

module _ {K : Type 0} where
  -- By the words each stream input is empty.
  abbrev pub AreStreamsEmpty : ℕ → List ℕ → BodyValue K → Type 0
  AreStreamsEmpty n words b = (i c : ℕ) → slice_get b.process.inputs i ≡ Some (From c) → IsEmptyAt n words c

  -- The words block an idle process that waits at its automatic input: it is empty and has an open sender; and no packet came there before, or the
  -- stream inputs are empty too, of a process that has some or has run.
  abbrev pub BlockSignal : ℕ → List ℕ → BodyValue K → Type 0
  BlockSignal n words b = (c : ℕ) × (b.process.signal ≡ Some c) × IsEmptyAt n words c × IsOpenAt n words c × ((b.process.signalled ≡ false) ⊎ (AreStreamsEmpty n words b × HasWorked b.process))

  -- They block one that waits at its stream inputs: each is empty, and one has an open sender; and a packet came at its automatic input before, or that
  -- is empty, if it has one.
  abbrev pub BlockStreams : ℕ → List ℕ → BodyValue K → Type 0
  BlockStreams n words b =
      AreStreamsEmpty n words b × ((i : ℕ) × (c : ℕ) × (slice_get b.process.inputs i ≡ Some (From c)) × IsOpenAt n words c) × ((b.process.signalled ≡ true) ⊎ ((c : ℕ) → b.process.signal ≡ Some c → IsEmptyAt n words c))

  -- The words block a process at this stage, where n is the number of processes and the connections are these.
  abbrev pub WordsBlock : ℕ → List ChannelShown → List ℕ → BodyValue K → Stage → Type 0
  WordsBlock n channels words b stages.Idle = BlockSignal n words b ⊎ BlockStreams n words b
  WordsBlock n channels words b (stages.Wishing (wishes.Receive port)) = (c : ℕ) × (slice_get b.process.inputs port.0 ≡ Some (From c)) × (level_in (slice_index words (n + c)) ≡ 0) × (0 < senders_in (slice_index words (n + c)))
  WordsBlock n channels words b (stages.Wishing (wishes.Send port id)) =
      (c : ℕ) × (k : ChannelShown) × (output_at b.process port.0 ≡ Some c) × (slice_get channels c ≡ Some k) × (k.capacity ≤ level_in (slice_index words (n + c)))
  WordsBlock n channels words b (stages.Wishing (wishes.Level port)) = ⊥
  WordsBlock n channels words b (stages.Wishing wishes.Deactivate) = ⊥
  WordsBlock n channels words b (stages.Told answer) = ⊥
  WordsBlock n channels words b (stages.Closing i) = ⊥
  WordsBlock n channels words b stages.Ended = ⊥
  WordsBlock n channels words b (stages.Failed cause) = ⊥

  -- There is nothing to do with the body any more: it is over and set, which is that its component was told its end; or it is starved: it isn't over,
  -- and isn't set, since its thought found no memory.
  abbrev pub IsRetired : BodyValue K → Type 0
  IsRetired b = (IsOverStage b.process.stage × IsSet b) ⊎ (IsNotOver b.process.stage × IsUnset b)

  -- Done. Each process whose word says that it is done has such a body.
  abbrev pub AllRetired : List ℕ → List (BodyValue K) → Type 0
  AllRetired words bodies = (q : ℕ) (b : BodyValue K) → slice_get bodies q ≡ Some b → IsDoneWord (slice_index words q) → IsRetired b

  -- What stays as it was when the floor was opened; and each connection at an automatic input is there.
  pub record IsWiredAs (start now : NetValue K) : Type 0 where
    pub inputs : (p : ℕ) (b b0 : BodyValue K) → slice_get now.bodies p ≡ Some b → slice_get start.bodies p ≡ Some b0 → b.process.inputs ≡ b0.process.inputs
    pub outputs : (p : ℕ) (b b0 : BodyValue K) → slice_get now.bodies p ≡ Some b → slice_get start.bodies p ≡ Some b0 → b.process.outputs ≡ b0.process.outputs
    pub signal : (p : ℕ) (b b0 : BodyValue K) → slice_get now.bodies p ≡ Some b → slice_get start.bodies p ≡ Some b0 → b.process.signal ≡ b0.process.signal
    pub signals : (p c : ℕ) (b : BodyValue K) → slice_get now.bodies p ≡ Some b → b.process.signal ≡ Some c → c < length start.channels
    pub capacities : (c : ℕ) (k k0 : ChannelShown) → slice_get now.channels c ≡ Some k → slice_get start.channels c ≡ Some k0 → k.capacity ≡ k0.capacity

  -- The word of a connection changes from old to new, and those whom that may unblock are among the noted: where the level rises or a sender closes,
  -- the receiver; where the level falls, the senders.
  pub record Notes (start : NetValue K) (c old new : ℕ) (noted : List ℕ) : Type 0 where
    pub receiver : ((level_in new ≤ level_in old) × (senders_in old ≤ senders_in new)) ⊎ ((q : ℕ) (b : BodyValue K) → slice_get start.bodies q ≡ Some b → IsInput b c → Contains noted q)
    pub senders : (level_in old ≤ level_in new) ⊎ ((q : ℕ) (b : BodyValue K) → slice_get start.bodies q ≡ Some b → IsOutput b c → Contains noted q)

  -- Some seat noted the process.
  abbrev pub IsNoted : List (View K) → ℕ → Type 0
  IsNoted views q = (j : ℕ) × (v : View K) × (get_elem? views j ≡ some v) × Contains v.noted q

  -- A level word that was looked at, and that blocked its process, still blocks it.
  abbrev pub StillBlocks : ℕ → List ChannelShown → List ℕ → BodyValue K → Look → Type 0
  StillBlocks n channels words b look = (c : ℕ) → look.word ≡ level_rank n c
      → (IsInput b c → (level_in look.read ≡ 0 → level_in (slice_index words (level_rank n c)) ≡ 0) × (0 < senders_in look.read → 0 < senders_in (slice_index words (level_rank n c))))
      × (IsOutput b c → (k : ChannelShown) → slice_get channels c ≡ Some k → k.capacity ≤ level_in look.read → k.capacity ≤ level_in (slice_index words (level_rank n c)))

  abbrev pub AllBlock : ℕ → List ChannelShown → List ℕ → BodyValue K → List Look → Type 0
  AllBlock n channels words b [] = Unit {0}
  AllBlock n channels words b (look ∷ seen) = StillBlocks n channels words b look × AllBlock n channels words b seen

  -- What holds of a seat: it has no more spare tokens than shares; only a seat that holds a process has noted one; where it has read 0 the live word is
  -- 0; and one without shares holds nothing and made no turn.
  pub record Keeps (live : ℕ) (v : View K) : Type 0 where
    pub spare : v.spare ≤ v.shares
    pub noted : v.held ≡ None → v.noted ≡ []
    pub zero : v.read_zero ≡ true → live ≡ 0
    pub bare : v.shares ≡ 0 → (v.held ≡ None) × (v.made ≡ [])

  pub record Wakes (start : NetValue K) (s : State (Slot K) (View K)) (g : Beside K) : Type 0 where
    pub wired : IsWiredAs start g.now
    -- live
    pub live : slice_index s.words (live_rank (length start.bodies) (length (capacities_of start))) ≡ live_in (length start.bodies) s.words + sum_by (λ (v : View K). v.spare) s.views
    pub shares : sum_by (λ (v : View K). v.shares) s.views ≡ WORKER_LIMIT
    -- notes and zero
    pub each : (j : ℕ) (v : View K) → get_elem? s.views j ≡ some v → Keeps (slice_index s.words (live_rank (length start.bodies) (length (capacities_of start)))) v
    -- parked and held
    pub parked : (q : ℕ) (b : BodyValue K) → slice_get g.now.bodies q ≡ Some b → slice_index s.words q ≡ 0
        → IsThoughtStage b.process.stage × (WordsBlock (length start.bodies) start.channels s.words b b.process.stage ⊎ IsNoted s.views q)
    pub held : (j q : ℕ) (v : View K) (b : BodyValue K) → get_elem? s.views j ≡ some v → v.held ≡ Some (q, b) → slice_index s.words q ≡ 1
        → AllBlock (length start.bodies) start.channels s.words b v.seen ⊎ IsNoted s.views q
