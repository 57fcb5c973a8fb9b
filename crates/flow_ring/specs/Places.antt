-- Where the words and slots of a floor lie whose connections have two ends. Here n is the number of its processes, m that of its connections, and
-- `capacities` has the capacity of each connection, in their order.
use Rattle.std.specs.Prelude.{◌≡◌, ◌≢◌, ℕ, zero, suc, ◌+◌, ◌*◌, ◌/◌, ◌%◌, ◌<◌, List, [], ◌∷◌, length, slice_index}
use Rattle.flow_ring.specs.declared.layout.TheConstants.{SPACING}

-- What has a word: a process; of a connection its level, and its gate; the clock; and the live word.
pub data Word : Type 0 where
  process : ℕ → Word
  level : ℕ → Word
  gate : ℕ → Word
  clock : Word
  live : Word

-- What has a slot: the body of a process; of a connection the number of puts, the number of takes, and each cell.
pub data Slot : Type 0 where
  body : ℕ → Slot
  puts : ℕ → Slot
  takes : ℕ → Slot
  cell : ℕ → ℕ → Slot

-- The process, or the connection, is one of those that there are.
abbrev pub IsWord : ℕ → ℕ → Word → Type 0
IsWord n m (process p) = p < n
IsWord n m (level c) = c < m
IsWord n m (gate c) = c < m
IsWord n m clock = Unit {0}
IsWord n m live = Unit {0}

-- The same of what has a slot. A connection has as many cells as it takes packets.
abbrev pub IsSlot : ℕ → List ℕ → Slot → Type 0
IsSlot n capacities (body p) = p < n
IsSlot n capacities (puts c) = c < length capacities
IsSlot n capacities (takes c) = c < length capacities
IsSlot n capacities (cell c i) = (c < length capacities) × (i < slice_index capacities c)

-- Words have an order: those of the processes, the levels, the gates, the clock, and the live word. How many words are before that of a level.
abbrev pub level_rank : ℕ → ℕ → ℕ
level_rank n c = n + c

-- How many are before that of a gate.
abbrev pub gate_rank : ℕ → ℕ → ℕ → ℕ
gate_rank n m c = n + m + c

-- How many are before the clock.
abbrev pub clock_rank : ℕ → ℕ → ℕ
clock_rank n m = n + m + m

-- How many are before the live word.
abbrev pub live_rank : ℕ → ℕ → ℕ
live_rank n m = n + m + m + 1

-- How many words are used.
abbrev pub rank_count : ℕ → ℕ → ℕ
rank_count n m = n + m + m + 2

-- How many words are before this one.
abbrev pub rank_of : ℕ → ℕ → Word → ℕ
rank_of n m (process p) = p
rank_of n m (level c) = level_rank n c
rank_of n m (gate c) = gate_rank n m c
rank_of n m clock = clock_rank n m
rank_of n m live = live_rank n m

-- The place of the word with this many before it.
abbrev pub spaced : ℕ → ℕ
spaced before = before * SPACING

-- The place of the word of a process.
abbrev pub process_at : ℕ → ℕ
process_at p = spaced p

-- The place of a word.
abbrev pub word_at : ℕ → ℕ → Word → ℕ
word_at n m word = spaced (rank_of n m word)

-- How many words there are, those between the ones that are used among them.
abbrev pub word_count : ℕ → ℕ → ℕ
word_count n m = spaced (rank_count n m)

-- How many cells the first of these connections have.
abbrev pub cells_before : List ℕ → ℕ → ℕ
cells_before [] c = 0
cells_before (x ∷ xs) zero = 0
cells_before (x ∷ xs) (suc c) = x + cells_before xs c

-- The slot of the number of puts of a connection.
abbrev pub puts_slot : ℕ → ℕ → ℕ
puts_slot n c = n + c

-- The slot of its number of takes.
abbrev pub takes_slot : ℕ → ℕ → ℕ → ℕ
takes_slot n m c = n + m + c

-- The slot of its cell number i.
abbrev pub cell_slot : ℕ → List ℕ → ℕ → ℕ → ℕ
cell_slot n capacities c i = n + length capacities + length capacities + (cells_before capacities c + i)

-- The slot of a place: places go round the cells of their connection.
abbrev pub place_slot : ℕ → List ℕ → ℕ → ℕ → ℕ
place_slot n capacities c place = cell_slot n capacities c (place % slice_index capacities c)

-- How many slots there are.
abbrev pub slot_count : ℕ → List ℕ → ℕ
slot_count n capacities = n + length capacities + length capacities + cells_before capacities (length capacities)

-- The place of a slot.
abbrev pub slot_at : ℕ → List ℕ → Slot → ℕ
slot_at n capacities (body p) = p
slot_at n capacities (puts c) = puts_slot n c
slot_at n capacities (takes c) = takes_slot n (length capacities) c
slot_at n capacities (cell c i) = cell_slot n capacities c i

-- The line of the cache, of 64 bytes, on which a place is, where the first word begins so many words into a line.
abbrev pub line_of : ℕ → ℕ → ℕ
line_of first place = (first + place) / 8

-- Wherever the first word is, two words on one line are one word.
abbrev pub OneLineEach : ℕ → ℕ → Type 0
OneLineEach n m = (first : ℕ) (a b : Word) → IsWord n m a → IsWord n m b → line_of first (word_at n m a) ≡ line_of first (word_at n m b) → a ≡ b

-- Each word has its place among so many.
abbrev pub WordsWithin : ℕ → ℕ → Type 0
WordsWithin n m = (a : Word) → IsWord n m a → word_at n m a < word_count n m

-- Two slots at one place are one slot.
abbrev pub OnePlaceEach : ℕ → List ℕ → Type 0
OnePlaceEach n capacities = (a b : Slot) → IsSlot n capacities a → IsSlot n capacities b → slot_at n capacities a ≡ slot_at n capacities b → a ≡ b

-- Each slot has its place among so many.
abbrev pub SlotsWithin : ℕ → List ℕ → Type 0
SlotsWithin n capacities = (a : Slot) → IsSlot n capacities a → slot_at n capacities a < slot_count n capacities

-- Two places of a connection that differ by less than its capacity have two cells.
abbrev pub CellsApart : ℕ → List ℕ → Type 0
CellsApart n capacities = (c first second : ℕ) → first < second → second < first + slice_index capacities c → place_slot n capacities c first ≢ place_slot n capacities c second
