-- What lies on a floor that is closed, what comes of it, and what is left there meanwhile. Here n is the number of its processes, and `capacities` has the
-- capacity of each connection.
use Rattle.std.specs.Prelude.{◌≡◌, ◌≢◌, ℕ, ◌+◌, ◌<◌, ◌≤◌, Bool, true, false, List, [], ◌∷◌, ◌++◌, All, length, map, Option, Some, None, slice_get, slice_index, slice_index_or, ◌==◌, ◌||◌, if◌then◌else◌, not, Contains}
use mathlib.Core.Option.{some}
use lib.ListN.{get_elem?}
use Rattle.flow_limits.specs.declared.TheConstants.{RUN_LIMIT}
use Rattle.flow_packet.specs.Tree.{Tree}
use Rattle.flow_component.specs.Laws.{Rules}
use Rattle.flow_model.specs.Stands.{ChannelShown}
use Rattle.flow_model.specs.declared.Stage.{Stage}
use Rattle.flow_model.specs.Stages.{is_over_stage}
use Rattle.flow_machine.specs.Values.{BodyValue, NetValue}
use Rattle.flow_machine.specs.Logs.{Logged, turns_made}
use Rattle.flow_machine.specs.Solo.{GoesBy, reached}
use Rattle.flow_ring.specs.Words.{senders_in}
use Rattle.flow_ring.specs.Places.{Slot as Place, body, puts, takes, cell, IsSlot, level_rank, cell_slot, slot_at}
use Rattle.flow_floor.specs.declared.board.Slot.{Slot}
use Rattle.flow_floor.specs.declared.board.Slot.TheVariants as slot
use Rattle.flow_floor.specs.Opening.{HasCells, HasPackets}
use Rattle.flow_floor.specs.Made.{numbered}

-- Whether a process with this word, at this stage, is done and yet not over: it was retired since its thought found no memory.
abbrev pub starves : ℕ → Stage → Bool
starves word stage = if (word == 4) || (word == 6) then not (is_over_stage stage) else false

-- A list with one more process, if it is to be listed.
abbrev pub listed : List ℕ → ℕ → Bool → List ℕ
listed starved process true = starved ++ process ∷ []
listed starved process false = starved

-- Each process that is listed is done and not over, and each of those below m is listed.
pub record ListsStarved {K : Type 0} (words : List ℕ) (bodies : List (BodyValue K)) (m : ℕ) (starved : List ℕ) : Type 0 where
  pub each : All (λ p. (b : BodyValue K) × (slice_get bodies p ≡ Some b) × (starves (slice_index words p) b.process.stage ≡ true)) starved
  pub all : (p : ℕ) (b : BodyValue K) → p < m → slice_get bodies p ≡ Some b → starves (slice_index words p) b.process.stage ≡ true → Contains starved p

-- The net of a floor that was closed: the net with which it was opened goes on to it by the turns `made`, which have the stamps from the first one on,
-- one after another; and it has the same processes.
pub record IsShut {K : Type 0} (rules : Rules K) (start : NetValue K) (made : List (ℕ × ℕ)) (net : NetValue K) : Type 0 where
  pub log : List Logged
  pub goes : GoesBy rules (reached rules) start (turns_made start) log net
  pub len : length net.bodies ≡ length start.bodies
  pub total : turns_made net ≡ turns_made start + length log
  pub turns : made ≡ numbered (turns_made start) log

module _ {K : Type 0} where
  -- The first n slots have bodies.
  abbrev pub HasBodies : ℕ → List (Slot K) → Type 0
  HasBodies n xs = (p : ℕ) → p < n → (b : BodyValue K) × (get_elem? xs p ≡ some (slot.Body b))

  -- These are the bodies of the first n slots, in order.
  abbrev pub BodiesIn : ℕ → List (Slot K) → List (BodyValue K) → Type 0
  BodiesIn n xs bs = (length bs ≡ n) × ((p : ℕ) (b : BodyValue K) → p < n → get_elem? xs p ≡ some (slot.Body b) → slice_get bs p ≡ Some b)

  -- The cells of connection c have these packets, the oldest at this place, and they are no more than the cells.
  abbrev pub HoldsPackets : ℕ → List ℕ → List (Slot K) → ℕ → ℕ → List Tree → Type 0
  HoldsPackets n capacities xs c first packets = HasCells n capacities xs c first packets × (length packets ≤ slice_index capacities c)

  -- Connection c lies so on a table with these words, in their order, and these slots, while nobody is at its ends: its level word has its open senders, and
  -- its slots have its numbers of puts and takes and its packets.
  pub record RestsAs (n : ℕ) (capacities ws : List ℕ) (xs : List (Slot K)) (c : ℕ) (k : ChannelShown) : Type 0 where
    pub senders : senders_in (slice_index ws (level_rank n c)) ≡ k.open_senders
    pub size : k.capacity ≡ slice_index capacities c
    pub level : length k.packets ≤ k.capacity
    pub numbers : k.puts ≡ k.takes + length k.packets
    pub few : k.puts ≤ RUN_LIMIT
    pub lies : HasPackets n capacities xs c k k.packets

  -- So does each connection, as some channel.
  abbrev pub EachRests : ℕ → List ℕ → List ℕ → List (Slot K) → Type 0
  EachRests n capacities ws xs = (c : ℕ) → c < length capacities → (k : ChannelShown) × RestsAs n capacities ws xs c k

  -- These are the channels as which all connections lie there, in order.
  abbrev pub ChannelsIn : ℕ → List ℕ → List ℕ → List (Slot K) → List ChannelShown → Type 0
  ChannelsIn n capacities ws xs ks = (length ks ≡ length capacities) × ((c : ℕ) (k : ChannelShown) → c < length capacities → RestsAs n capacities ws xs c k → slice_get ks c ≡ Some k)

-- The packet that was found in a cell, in a list; none where there was none.
abbrev pub packet_list : Option Tree → List Tree
packet_list (Some packet) = packet ∷ []
packet_list None = []

-- A channel in which this is put, behind all else.
abbrev pub with_found : ChannelShown → Option Tree → ChannelShown
with_found k found = record k { packets = k.packets ++ packet_list found; puts = k.puts + length (packet_list found) }

-- These are channels with these capacities, in which nothing is.
pub record AreEmpty (capacities : List ℕ) (channels : List ChannelShown) : Type 0 where
  pub sizes : map (λ k. k.capacity) channels ≡ capacities
  pub empty : All (λ (k : ChannelShown). k.packets ≡ []) channels

-- Which slots are full is a list. The slot at a place is full, or empty.
abbrev pub IsFullAt : List Bool → ℕ → Type 0
IsFullAt filled place = slice_index_or filled place false ≡ true

abbrev pub IsGoneAt : List Bool → ℕ → Type 0
IsGoneAt filled place = slice_index_or filled place false ≡ false

-- All cells of connection c are full slots: nobody took them out.
abbrev pub HasItsCells : ℕ → List ℕ → ℕ → List Bool → Type 0
HasItsCells n capacities c filled = (i : ℕ) → i < slice_index capacities c → IsFullAt filled (cell_slot n capacities c i)

-- The cells of connection c were taken out, and nothing else.
pub record TakesCells (n : ℕ) (capacities : List ℕ) (c : ℕ) (old new : List Bool) : Type 0 where
  pub gone : (i : ℕ) → i < slice_index capacities c → IsGoneAt new (cell_slot n capacities c i)
  pub others : (x : ℕ) → ((i : ℕ) → i < slice_index capacities c → x ≢ cell_slot n capacities c i) → slice_index_or new x false ≡ slice_index_or old x false

-- What is left where the bodies were taken out, and all that lies at the first m connections.
abbrev pub IsFrom : ℕ → Place → Type 0
IsFrom m (body p) = ⊥
IsFrom m (puts c) = m ≤ c
IsFrom m (takes c) = m ≤ c
IsFrom m (cell c i) = m ≤ c

-- Just that is left.
pub record AreLeft (n : ℕ) (capacities : List ℕ) (m : ℕ) (filled : List Bool) : Type 0 where
  pub full : (a : Place) → IsSlot n capacities a → IsFrom m a → IsFullAt filled (slot_at n capacities a)
  pub gone : (a : Place) → IsSlot n capacities a → (IsFrom m a → ⊥) → IsGoneAt filled (slot_at n capacities a)
