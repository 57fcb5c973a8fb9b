-- What each step tells.
use Rattle.std.specs.Prelude.{◌≡◌, ◌≢◌, ℕ, ◌+◌, ◌/◌, ◌<◌, ◌≤◌, List, ◌∷◌, length, Option, Some, None, slice_get}
use Rattle.flow_limits.specs.declared.TheConstants.{RUN_LIMIT}
use Rattle.atomic_table.specs.Table.{Me, Step, rest}
use Rattle.flow_packet.specs.Tree.{Tree}
use Rattle.flow_component.specs.Laws.{Rules}
use Rattle.flow_model.specs.Stands.{ChannelShown}
use Rattle.flow_machine.specs.Values.{BodyValue, NetValue}
use Rattle.flow_machine.specs.FitNets.{FitNet}
use Rattle.flow_ring.specs.declared.TheConstants.{FIELD}
use Rattle.flow_ring.specs.declared.layout.TheConstants.{SPACING}
use Rattle.flow_ring.specs.Words.{level_in}
use Rattle.flow_ring.specs.Places.{puts_slot, takes_slot, place_slot}
use Rattle.flow_floor.specs.Made.{Below}
use Rattle.flow_floor.specs.Wired.{IsWiredIn}
use Rattle.flow_floor.specs.declared.board.Slot.{Slot}
use Rattle.flow_floor.specs.declared.board.Slot.TheVariants as slot
use Rattle.flow_floor.specs.declared.board.Sending.{Sending}
use Rattle.flow_floor.specs.declared.board.Receiving.{Receiving}
use Rattle.flow_floor.specs.declared.board.View.{View}
use Rattle.flow_floor.specs.Pending.{AllMay, MachineTurns}
use Rattle.flow_floor.specs.Views.{Move, all_turned, claiming, counting, drawing, emptying, entering, exiting, filling, learning, leaving, looked, lowering, parking, placing, poking, publishing, raising, reading, refusing, seeing, stamping, striking, subtracting, withdrawing}

module _ {K : Type 0} where
  abbrev pub HeldIn : NetValue K → Option (ℕ × BodyValue K) → Type 0
  HeldIn now (Some held) = slice_get now.bodies held.0 ≡ Some held.1
  HeldIn now None = Unit {0}

-- A worker's seat at the table.
abbrev pub Sat : Type 0 → Type 0
Sat K = Me (Slot K) (View K)

-- How many packets a seat has placed, and how many it has drawn.
abbrev pub placed_count : Option Sending → ℕ
placed_count (Some sending) = length sending.placed
placed_count None = 0

abbrev pub drawn_count : Option Receiving → ℕ
drawn_count (Some receiving) = length receiving.drawn
drawn_count None = 0

module _ {K : Type 0} where
  -- The step, with its word by its number in their order.
  abbrev pub ordered : Step (Slot K) → Step (Slot K)
  ordered st = record st { word = st.word / SPACING }

  -- At some moment the machine had the body that is held, and this packet behind the i oldest ones of connection c.
  abbrev pub WasThere : Rules K → Option (ℕ × BodyValue K) → ℕ → ℕ → Tree → Type 0
  WasThere rules held c i packet = (now : NetValue K) × (k : ChannelShown) × FitNet rules now × (slice_get now.channels c ≡ Some k) × (slice_get k.packets i ≡ Some packet) × HeldIn now held

  -- At some moment the machine would have had the body that is held if the seat's pending turns, which are these, had been stamped then.
  abbrev pub WouldHold : Rules K → View K → List (Move K) → Type 0
  WouldHold rules v turns = (r : ℕ) × (now : NetValue K) × FitNet rules now × HeldIn now (all_turned v r turns).held

  -- And this packet would have been behind those that the seat has drawn since, at connection c.
  abbrev pub WouldBeThere : Rules K → View K → List (Move K) → ℕ → Tree → Type 0
  WouldBeThere rules v turns c packet = (r : ℕ) × WasThere rules (all_turned v r turns).held c (drawn_count (all_turned v r turns).receiving) packet

  -- So it is whatever turns of the seat are pending. Here n is the number of processes, m that of connections.
  abbrev pub WouldAlwaysHold : Rules K → ℕ → ℕ → View K → Type 0
  WouldAlwaysHold rules n m v = (turns : List (Move K)) → AllMay rules n m v turns → WouldHold rules v turns

  abbrev pub WouldAlwaysBeThere : Rules K → ℕ → ℕ → View K → ℕ → Tree → Type 0
  WouldAlwaysBeThere rules n m v c packet = (turns : List (Move K)) → AllMay rules n m v turns → WouldBeThere rules v turns c packet

  abbrev pub claimed : ℕ → Step (Slot K) → Sat K → ℕ → Sat K → Type 0
  claimed n st m r m' = (r ≡ 2 → (b : BodyValue K) × (b.leaving ≡ None) × IsWiredIn n b × (m' ≡ (claiming m.0 st.word b, (st.word, slot.Body b) ∷ m.1))) × (r ≢ 2 → m' ≡ (refusing m.0 st.word r, m.1))

  -- The gate of connection c was free, and the seat is at the sending end; or it was taken, and the step read that.
  abbrev pub gated : ℕ → Step (Slot K) → Sat K → ℕ → Sat K → Type 0
  gated c st m r m' = (r ≡ 0 → m' ≡ (entering m.0 c, m.1)) × (r ≢ 0 → (r ≡ 1) × (m' ≡ (looked m.0 st.word r, m.1)))

  -- The seat is at the sending end of connection c, into which no other process sends.
  abbrev pub came : ℕ → Step (Slot K) → Sat K → ℕ → Sat K → Type 0
  came c st m r m' = m' ≡ (entering m.0 c, m.1)

  -- A level was read, and nothing else.
  abbrev pub saw : Step (Slot K) → Sat K → ℕ → Sat K → Type 0
  saw st m r m' = m' ≡ (seeing m.0 st.word r, m.1)

  -- A level was read at the sending end, to be told; the connection takes so many packets.
  abbrev pub learned : ℕ → Step (Slot K) → Sat K → ℕ → Sat K → Type 0
  learned most st m r m' = (m' ≡ (learning m.0 st.word r, m.1)) × (level_in r ≤ most)

  -- A level was read at the sending end of connection c, to place this packet: where there is room, the number of puts is the seat's, and so is the cell
  -- behind all packets, which is empty.
  abbrev pub placed : Rules K → ℕ → List ℕ → ℕ → ℕ → Tree → Step (Slot K) → Sat K → ℕ → Sat K → Type 0
  placed rules n capacities c most packet st m r m' =
      (level_in r + placed_count m.0.sending < most → (puts : ℕ) × (puts < RUN_LIMIT + FIELD) × WouldAlwaysHold rules n (length capacities) m.0 × (m' ≡ (placing m.0 puts packet, (puts_slot n c, slot.Count puts) ∷ (place_slot n capacities c puts, slot.Cell None) ∷ m.1)))
      × (most ≤ level_in r + placed_count m.0.sending → m' ≡ (seeing m.0 st.word r, m.1))

  -- The cell is back with the packet, and so is the number of puts.
  abbrev pub filled : Step (Slot K) → Sat K → ℕ → Sat K → Type 0
  filled st m r m' = m' ≡ (filling m.0, rest (rest m.1))

  -- A level was read to receive at connection c: where it counts a packet that wasn't drawn, the number of takes is the seat's, and so is the cell of the
  -- oldest such packet.
  abbrev pub drew : Rules K → ℕ → List ℕ → ℕ → Step (Slot K) → Sat K → ℕ → Sat K → Type 0
  drew rules n capacities c st m r m' =
      (drawn_count m.0.receiving < level_in r → (takes : ℕ) × (takes < RUN_LIMIT + FIELD) × (packet : Tree) × WouldAlwaysBeThere rules n (length capacities) m.0 c packet
      × (m' ≡ (drawing m.0 c takes packet, (takes_slot n (length capacities) c, slot.Count takes) ∷ (place_slot n capacities c takes, slot.Cell (Some packet)) ∷ m.1)))
      × (level_in r ≤ drawn_count m.0.receiving → m' ≡ (seeing m.0 st.word r, m.1))

  -- The cell is back, and so is the number of takes.
  abbrev pub emptied : Step (Slot K) → Sat K → ℕ → Sat K → Type 0
  emptied st m r m' = m' ≡ (emptying m.0, rest (rest m.1))

  -- These turns were stamped, the first with the number that was read.
  abbrev pub stamped : Rules K → NetValue K → List (Move K) → Step (Slot K) → Sat K → ℕ → Sat K → Type 0
  stamped rules start turns st m r m' = (m' ≡ (stamping m.0 r turns, m.1)) × Below r m.0.made × (r + length turns ≤ RUN_LIMIT + 1) × MachineTurns rules start m.0.made r m.0.held turns

  -- A seat stamped turns of which this is known, the first with this stamp, and each is the machine's turn of its stamp.
  pub record StampsAll (rules : Rules K) (start : NetValue K) (are : List (Move K) → Type 0) (old new : View K) (first : ℕ) : Type 0 where
    pub turns : List (Move K)
    pub known : are turns
    pub view : new ≡ stamping old first turns
    pub machine : MachineTurns rules start old.made first old.held turns

  -- Turns of which this is known were stamped so.
  abbrev pub all_stamped : Rules K → NetValue K → (List (Move K) → Type 0) → Step (Slot K) → Sat K → ℕ → Sat K → Type 0
  all_stamped rules start are st m r m' = (turns : List (Move K)) × are turns × stamped rules start turns st m r m'

  abbrev pub published : List ℕ → Step (Slot K) → Sat K → ℕ → Sat K → Type 0
  published notes st m r m' = m' ≡ (publishing m.0 notes, m.1)

  abbrev pub subtracted : List ℕ → Step (Slot K) → Sat K → ℕ → Sat K → Type 0
  subtracted notes st m r m' = m' ≡ (subtracting m.0 notes, m.1)

  abbrev pub withdrew : List ℕ → Step (Slot K) → Sat K → ℕ → Sat K → Type 0
  withdrew notes st m r m' = m' ≡ (withdrawing m.0 notes, m.1)

  abbrev pub exited : Step (Slot K) → Sat K → ℕ → Sat K → Type 0
  exited st m r m' = m' ≡ (exiting m.0, m.1)

  abbrev pub left : Step (Slot K) → Sat K → ℕ → Sat K → Type 0
  left st m r m' = m' ≡ (leaving m.0, rest m.1)

  abbrev pub parked : Step (Slot K) → Sat K → ℕ → Sat K → Type 0
  parked st m r m' = (r ≡ 1 → m' ≡ (parking m.0, rest m.1)) × (r ≢ 1 → (r ≡ 3) × (m' ≡ (looked m.0 st.word r, m.1)))

  abbrev pub retired : Step (Slot K) → Sat K → ℕ → Sat K → Type 0
  retired st m r m' = m' ≡ (parking m.0, rest m.1)

  -- The first noted process is struck off where its word says that it is ready, poked or done.
  abbrev pub glanced : Step (Slot K) → Sat K → ℕ → Sat K → Type 0
  glanced st m r m' = (1 < r → m' ≡ (striking m.0, m.1)) × (r ≤ 1 → m' ≡ (counting m.0, m.1))

  -- It is struck off unless it was parked: where it was held it is poked now.
  abbrev pub nudged : Step (Slot K) → Sat K → ℕ → Sat K → Type 0
  nudged st m r m' = (r ≢ 0 → m' ≡ (striking m.0, m.1)) × (r ≡ 0 → m' ≡ (counting m.0, m.1))

  abbrev pub raised : Step (Slot K) → Sat K → ℕ → Sat K → Type 0
  raised st m r m' = m' ≡ (raising m.0, m.1)

  abbrev pub poked : Step (Slot K) → Sat K → ℕ → Sat K → Type 0
  poked st m r m' = m' ≡ (poking m.0 r, m.1)

  abbrev pub lowered : Step (Slot K) → Sat K → ℕ → Sat K → Type 0
  lowered st m r m' = m' ≡ (lowering m.0, m.1)

  abbrev pub told_live : Step (Slot K) → Sat K → ℕ → Sat K → Type 0
  told_live st m r m' = m' ≡ (reading m.0 st.word r, m.1)
