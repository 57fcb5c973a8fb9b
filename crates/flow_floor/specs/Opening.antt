-- What a floor is opened with. Here n is the number of its processes, and `capacities` has the capacity of each connection.
use Rattle.std.specs.Prelude.{◌≡◌, ℕ, ◌+◌, ◌<◌, ◌≤◌, ◌⊎◌, List, [], length, slice_get, slice_index, Some}
use mathlib.Core.Option.{some}
use lib.ListN.{get_elem?}
use Rattle.flow_limits.specs.declared.TheConstants.{CAPACITY_LIMIT}
use Rattle.flow_packet.specs.Tree.{Tree}
use Rattle.flow_model.specs.Stands.{ChannelShown}
use Rattle.flow_machine.specs.Values.{BodyValue, NetValue}
use Rattle.flow_machine.specs.Logs.{turns_made}
use Rattle.flow_ring.specs.declared.TheConstants.{FIELD}
use Rattle.flow_ring.specs.Places.{spaced}
use Rattle.flow_ring.specs.Words.{free_word}
use Rattle.flow_ring.specs.Places.{level_rank, gate_rank, clock_rank, live_rank, word_count, puts_slot, takes_slot, cell_slot, place_slot, slot_count}
use Rattle.flow_floor.specs.Ends.{capacities_of}
use Rattle.flow_floor.specs.declared.board.Slot.{Slot}
use Rattle.flow_floor.specs.declared.board.Slot.TheVariants as slot

-- The words of a floor on which nothing was done, each at its place: all processes are ready, each level word has its connection's packets and open
-- senders, and all gates are free.
pub record FirstWords {K : Type 0} (start : NetValue K) (ws : List ℕ) : Type 0 where
  pub wide : length ws ≡ word_count (length start.bodies) (length (capacities_of start))
  pub ready : (p : ℕ) → p < length start.bodies → slice_index ws (spaced p) ≡ 2
  pub levels : (c : ℕ) (k : ChannelShown) → slice_get start.channels c ≡ Some k → slice_index ws (spaced (level_rank (length start.bodies) c)) ≡ free_word (length k.packets) k.open_senders
  pub gates : (c : ℕ) → c < length (capacities_of start) → slice_index ws (spaced (gate_rank (length start.bodies) (length (capacities_of start)) c)) ≡ 0
  pub clock : slice_index ws (spaced (clock_rank (length start.bodies) (length (capacities_of start)))) ≡ turns_made start
  pub live : slice_index ws (spaced (live_rank (length start.bodies) (length (capacities_of start)))) ≡ length start.bodies

-- So many processes are ready, by these words.
abbrev pub AreReady : ℕ → List ℕ → Type 0
AreReady count ws = (p : ℕ) → p < count → slice_index ws (spaced p) ≡ 2

-- The level words of the first of these connections, which are so many, have their packets and open senders.
abbrev pub HaveLevels : ℕ → List ChannelShown → ℕ → List ℕ → Type 0
HaveLevels n channels count ws = (c : ℕ) (k : ChannelShown) → c < count → slice_get channels c ≡ Some k → slice_index ws (spaced (level_rank n c)) ≡ free_word (length k.packets) k.open_senders

-- All words are the same but those that have at least `from` words before them, and fewer than `to`.
abbrev pub AreSameBut : ℕ → ℕ → List ℕ → List ℕ → Type 0
AreSameBut from to ws vs = (q : ℕ) → (q < from) ⊎ (to ≤ q) → slice_index vs (spaced q) ≡ slice_index ws (spaced q)

module _ {K : Type 0} where
  -- This lies in the slot at a place.
  abbrev pub IsIn : List (Slot K) → ℕ → Slot K → Type 0
  IsIn xs place x = get_elem? xs place ≡ some x

  -- The cells of connection c have these packets, the oldest at this place, the others at the places behind it, and are empty where there are no more.
  abbrev pub HasCells : ℕ → List ℕ → List (Slot K) → ℕ → ℕ → List Tree → Type 0
  HasCells n capacities xs c first packets = (i : ℕ) → i < slice_index capacities c → IsIn xs (place_slot n capacities c (first + i)) (slot.Cell (slice_get packets i))

  -- The slots of connection c have its numbers of puts and of takes, and these packets, the oldest at the place that is its number of takes.
  pub record HasPackets (n : ℕ) (capacities : List ℕ) (xs : List (Slot K)) (c : ℕ) (k : ChannelShown) (packets : List Tree) : Type 0 where
    pub puts : IsIn xs (puts_slot n c) (slot.Count k.puts)
    pub takes : IsIn xs (takes_slot n (length capacities) c) (slot.Count k.takes)
    pub cells : HasCells n capacities xs c k.takes packets

  -- The slots of a floor on which nothing was done: each body lies in its slot, and each connection in its slots.
  pub record FirstSlots (start : NetValue K) (xs : List (Slot K)) : Type 0 where
    pub deep : length xs ≡ slot_count (length start.bodies) (capacities_of start)
    pub bodies : (p : ℕ) (b : BodyValue K) → slice_get start.bodies p ≡ Some b → IsIn xs p (slot.Body b)
    pub connections : (c : ℕ) (k : ChannelShown) → slice_get start.channels c ≡ Some k → HasPackets (length start.bodies) (capacities_of start) xs c k k.packets

  -- All slots are the same but the cells of connection c.
  abbrev pub AreSameButCells : ℕ → List ℕ → ℕ → List (Slot K) → List (Slot K) → Type 0
  AreSameButCells n capacities c xs ys = (x : ℕ) → ((i : ℕ) → i < slice_index capacities c → x ≡ cell_slot n capacities c i → ⊥) → get_elem? ys x ≡ get_elem? xs x

-- A connection takes some packets, and few enough for a word; no more are in it; few enough senders are open for a word; and what was put was taken or is
-- there.
pub record IsSound (k : ChannelShown) : Type 0 where
  pub some_room : 0 < k.capacity
  pub most : k.capacity ≤ CAPACITY_LIMIT
  pub level : length k.packets ≤ k.capacity
  pub few : k.open_senders < FIELD
  pub numbers : k.puts ≡ k.takes + length k.packets

-- All of these connections are so.
abbrev pub AreSound : List ChannelShown → Type 0
AreSound channels = (c : ℕ) (k : ChannelShown) → slice_get channels c ≡ Some k → IsSound k

-- A connection without its packets, after they were all taken.
abbrev pub emptied : ChannelShown → ChannelShown
emptied k = record k { packets = []; takes = k.puts }
