-- How a connection lies on the table after each kind of step: each lemma speaks of the connection's own words and slots, and of nothing else.
use Rattle.std.proofs.Common.{◌≡◌, ◌≢◌, ℕ, zero, suc, ◌+◌, ◌-◌, ◌%◌, ◌<◌, ◌≤◌, List, [], ◌∷◌, ◌++◌, length, drop, get_or, set, sym, refl, ap, ◌∙◌, subst, arith, Option, Some, None, slice_get, length-append, length-set, inl, inr}
use mathlib.Core.Logic.{dite}
use mathlib.Core.Option.{none, some}
use native.Mathlib.Decide.{ℕ_discrete, dec_lt}
use lib.ListN.{get_elem?}
use Rattle.atomic_table.proofs.Lists.{set_here, set_else}
use Rattle.flow_packet.specs.Tree.{Tree}
use Rattle.flow_model.specs.Turns.{Taken, Added, Closed}
use Rattle.flow_model.specs.Stands.{ChannelShown, shown_changed}
use Rattle.flow_machine.specs.Values.{NetValue}
use Rattle.flow_ring.specs.declared.TheConstants.{FIELD}
use Rattle.flow_ring.specs.Words.{free_word}
use Rattle.flow_ring.specs.Places.{level_rank, puts_slot, takes_slot, cell_slot, place_slot, slot_count}
use Rattle.flow_ring.proofs.Rounds.{mod-round}
use Rattle.flow_floor.specs.declared.board.Slot.TheVariants as slot
use Rattle.flow_floor.specs.declared.board.Sending.{Sending}
use Rattle.flow_floor.specs.declared.board.Receiving.{Receiving}
use Rattle.flow_floor.specs.declared.board.View.{View}
use Rattle.flow_floor.specs.Ends.{capacities_of, IsLearnt}
use Rattle.flow_floor.specs.Law.{IsHome, CountLies, LiesSo}
use Rattle.flow_floor.specs.Turning.{sent_by, received_by}
use Rattle.flow_floor.proofs.Cells.{St, state, get-over, get-push, get-push-else, get-drop, length-drop-one, drop-append, part-more, push-assoc, push-assoc-all, Own, place-own, own-within, place-else, place-puts, place-takes}

no-some : {A : Type 0} (X : Type 0) (o : Option A) (x : A) → o ≡ None → o ≡ Some x → X
no-some X o x a b = let e : None ≡ Some x = sym a ∙ b in absurd (cc)

module _ {K : Type 0} (start : NetValue K) where
  abbrev P : ℕ
  P = length start.bodies

  abbrev caps : List ℕ
  caps = capacities_of start

  abbrev C : ℕ
  C = length caps

  -- The cell of a place of connection c.
  abbrev cell : ℕ → ℕ → ℕ
  cell c place = place_slot P caps c place

  -- The connection has the same slots as before.
  abbrev pub SameSlots : ℕ → St K → St K → Type 0
  SameSlots c s s' = (x : ℕ) → Own P caps c x → get_elem? s'.homes x ≡ get_elem? s.homes x

  count-keep : (s s' : St K) (place count : ℕ) (out : Option ℕ) → get_elem? s'.homes place ≡ get_elem? s.homes place → CountLies s place count out → CountLies s' place count out
  count-keep s s' place count None home l = home ∙ l
  count-keep s s' place count (Some last) home l = l

  count-same : (s : St K) (place count count' : ℕ) (out : Option ℕ) → count ≡ count' → CountLies s place count out → CountLies s place count' out
  count-same s place count count' out same l = subst (λ n. CountLies s place n out) same l

  some-cell : (s : St K) (c : ℕ) (k : ChannelShown) (x : Sending) (y : Receiving) (i : ℕ) → LiesSo start s c k x y → i < k.capacity → 0 < get_or caps c 0
  some-cell s c k x y i l below = omega (arith, l.size, below)

  -- No slot changes, and of the ends only what was stamped and isn't in the level word, and what was learnt.
  pub so-count : (s s' : St K) (c : ℕ) (k : ChannelShown) (x : Sending) (y : Receiving) (puts closes takes level : ℕ) (learnt : Option ℕ) → SameSlots c s s' → LiesSo start s c k x y → get_or s'.words (level_rank P c) 0 ≡ free_word level (k.open_senders + closes)
      → level + puts ≡ length k.packets + takes → length y.drawn + takes ≤ level → length k.packets + takes + length x.placed ≤ k.capacity → k.open_senders + closes < FIELD → (0 < puts → 0 < k.open_senders) → IsLearnt k learnt
      → LiesSo start s' c k (record x { unpublished = puts; unsubtracted = closes; learnt = learnt }) (record y { unwithdrawn = takes })
  so-count s s' c k x y puts closes takes level learnt home l word counted counts room few sends told = record {
    level = level;
    word = word;
    counted = counted;
    drawn = l.drawn;
    counts = counts;
    room = room;
    few = (l.few.0, few);
    sends = sends;
    learnt = told;
    size = l.size;
    emptied = λ i low. elim (l.emptied i low) [
      | inl out ↦ inl out
      | inr here ↦ inr (home (cell c (k.takes + i)) (place-own P caps c (k.takes + i) (some-cell s c k x y i l (drawn-below i low))) ∙ here)
    ];
    filled = λ i high below. elim (l.filled i high below) [
      | inl out ↦ inl out
      | inr here ↦ inr (home (cell c (k.takes + i)) (place-own P caps c (k.takes + i) (some-cell s c k x y i l below)) ∙ here)
    ];
    numbers = l.numbers;
    puts = count-keep s s' (puts_slot P c) (k.puts + length x.placed) x.out (home (puts_slot P c) (inl refl)) l.puts;
    takes = count-keep s s' (takes_slot P C c) (k.takes + length y.drawn) y.out (home (takes_slot P C c) (inr (inl refl))) l.takes;
  }
    where
      drawn-below : (i : ℕ) → i < length y.drawn → i < k.capacity
      drawn-below i low = omega (arith, low, l.room, ap length l.drawn.1, length-append y.drawn l.drawn.0)

  -- The connection lies as it did where its level word and its slots stay.
  pub so-keep : (s s' : St K) (c : ℕ) (k : ChannelShown) (x : Sending) (y : Receiving) → get_or s'.words (level_rank P c) 0 ≡ get_or s.words (level_rank P c) 0 → SameSlots c s s' → LiesSo start s c k x y → LiesSo start s' c k x y
  so-keep s s' c k x y word home l = so-count s s' c k x y x.unpublished x.unsubtracted y.unwithdrawn l.level x.learnt home l (word ∙ l.word) l.counted l.counts l.room l.few.1 l.sends l.learnt

  -- The drawn packets are in the connection, which has a cell for each.
  pub drawn-short : (s : St K) (c : ℕ) (k : ChannelShown) (x : Sending) (y : Receiving) → LiesSo start s c k x y → length y.drawn ≤ length k.packets
  drawn-short s c k x y l = omega (arith, ap length l.drawn.1, length-append y.drawn l.drawn.0)

  -- A turn takes the oldest packet, which was drawn.
  pub so-taken : (s s' : St K) (c : ℕ) (k : ChannelShown) (x : Sending) (y : Receiving) → get_or s'.words (level_rank P c) 0 ≡ get_or s.words (level_rank P c) 0 → SameSlots c s s' → 0 < length y.drawn → y.out ≡ None → LiesSo start s c k x y
      → LiesSo start s' c (shown_changed Taken k) x (received_by Taken y)
  so-taken s s' c k x y word home some_drawn inside l =
      let len : ℕ = length k.packets in
      let short = drawn-short s c k x y l in
      let fewer : length (drop 1 k.packets) ≡ len - 1 = length-drop-one k.packets in
      let fewer_drawn : length (drop 1 y.drawn) ≡ length y.drawn - 1 = length-drop-one y.drawn in
      let behind : drop 1 (k.packets ++ x.placed) ≡ drop 1 k.packets ++ x.placed = drop-append k.packets x.placed (omega (arith, short, some_drawn)) in
      record {
        level = l.level;
        word = word ∙ l.word;
        counted = omega (arith, l.counted, fewer, short, some_drawn);
        drawn = (l.drawn.0, ap (drop 1) l.drawn.1 ∙ drop-append y.drawn l.drawn.0 some_drawn);
        counts = omega (arith, l.counts, fewer_drawn, some_drawn);
        room = omega (arith, l.room, fewer, short, some_drawn);
        few = l.few;
        sends = l.sends;
        learnt = learnt x.learnt l.learnt;
        size = l.size;
        emptied = λ i low. elim (l.emptied (i + 1) (omega (arith, low, fewer_drawn))) [
          | inl out ↦ no-some _ y.out out.0 inside out.1
          | inr here ↦ inr (moved i ∙ home (cell c (k.takes + (i + 1))) (place-own P caps c (k.takes + (i + 1)) (omega (arith, l.size, l.room, short, some_drawn))) ∙ here)
        ];
        filled = λ i high below. dite (dec_lt (i + 1) k.capacity)
            (λ inside_still. elim (l.filled (i + 1) (omega (arith, high, fewer_drawn)) inside_still) [
              | inl out ↦ inl (out.0, out.1, omega (arith, out.2, fewer), omega (arith, out.3, fewer, short, some_drawn))
              | inr here ↦ inr (moved i ∙ home (cell c (k.takes + (i + 1))) (place-own P caps c (k.takes + (i + 1)) (omega (arith, l.size, below))) ∙ here
                  ∙ ap (λ z. some (some (slot.Cell z))) (ap (slice_get (k.packets ++ x.placed)) (let z : i + 1 ≡ suc i = omega arith in z) ∙ sym (get-drop (k.packets ++ x.placed) i) ∙ ap (λ zs. slice_get zs i) behind))
            ])
            (λ last. (let here = first-empty in inr (round i below last ∙ home (cell c (k.takes + 0)) (place-own P caps c (k.takes + 0) (omega (arith, l.size, below))) ∙ here
            ∙ ap (λ z. some (some (slot.Cell z))) (sym (get-over (drop 1 k.packets ++ x.placed) i (omega (arith, length-append (drop 1 k.packets) x.placed, fewer, l.room, last, short, some_drawn)))))));
        numbers = omega (arith, l.numbers, fewer, short, some_drawn);
        puts = count-keep s s' (puts_slot P c) (k.puts + length x.placed) x.out (home (puts_slot P c) (inl refl)) l.puts;
        takes = count-same s' (takes_slot P C c) (k.takes + length y.drawn) (k.takes + 1 + length (drop 1 y.drawn)) y.out (omega (arith, fewer_drawn, some_drawn)) (count-keep s s' (takes_slot P C c) (k.takes + length y.drawn) y.out (home (takes_slot P C c) (inr (inl refl))) l.takes);
      }
    where
      learnt : (told : Option ℕ) → IsLearnt k told → IsLearnt (shown_changed Taken k) told
      learnt None t = tt
      learnt (Some level) t = (omega (arith, t.0, length-drop-one k.packets), t.1)

      moved : (i : ℕ) → get_elem? s'.homes (cell c (k.takes + 1 + i)) ≡ get_elem? s'.homes (cell c (k.takes + (i + 1)))
      moved i = ap (λ z. get_elem? s'.homes (cell c z)) (let z : k.takes + 1 + i ≡ k.takes + (i + 1) = omega arith in z)

      -- the cell of the packet that is taken is empty
      first-empty : IsHome s (cell c (k.takes + 0)) (slot.Cell None)
      first-empty = elim (l.emptied 0 some_drawn) [
        | inl out ↦ no-some _ y.out out.0 inside out.1
        | inr here ↦ here
      ]

      -- it is the last one after that
      round : (i : ℕ) → i < k.capacity → (i + 1 < k.capacity → ⊥) → get_elem? s'.homes (cell c (k.takes + 1 + i)) ≡ get_elem? s'.homes (cell c (k.takes + 0))
      round i below last =
          let cap = get_or caps c 0 in
          let z : k.takes + 1 + i ≡ k.takes + cap = omega (arith, below, last, l.size) in
          let r : (k.takes + cap) % cap ≡ k.takes % cap = mod-round cap k.takes (omega (arith, below, l.size)) in
          let e : k.takes ≡ k.takes + 0 = omega arith in
          ap (λ w. get_elem? s'.homes (cell c w)) z ∙ ap (λ w. get_elem? s'.homes (cell_slot P caps c w)) r ∙ ap (λ w. get_elem? s'.homes (cell c w)) e

  -- A turn adds the oldest packet that was placed.
  pub so-added : (s s' : St K) (c : ℕ) (k : ChannelShown) (x : Sending) (y : Receiving) (packet : Tree) → get_or s'.words (level_rank P c) 0 ≡ get_or s.words (level_rank P c) 0 → SameSlots c s s' → x.placed ≡ packet ∷ drop 1 x.placed → x.out ≡ None → 0 < k.open_senders → LiesSo start s c k x y
      → LiesSo start s' c (shown_changed (Added packet) k) (sent_by (Added packet) x) y
  so-added s s' c k x y packet word home first inside some_open l =
      let len : ℕ = length k.packets in
      let more : length (k.packets ++ packet ∷ []) ≡ len + 1 = length-append k.packets (packet ∷ []) in
      let placed : length x.placed ≡ length (drop 1 x.placed) + 1 = ap length first ∙ (let z : suc (length (drop 1 x.placed)) ≡ length (drop 1 x.placed) + 1 = omega arith in z) in
      let whole : k.packets ++ x.placed ≡ (k.packets ++ packet ∷ []) ++ drop 1 x.placed = ap (λ zs. k.packets ++ zs) first ∙ sym (push-assoc k.packets packet (drop 1 x.placed)) in
      let short = drawn-short s c k x y l in
      record {
        level = l.level;
        word = word ∙ l.word;
        counted = omega (arith, l.counted, more);
        drawn = (l.drawn.0 ++ packet ∷ [], ap (λ zs. zs ++ packet ∷ []) l.drawn.1 ∙ sym (push-assoc-all y.drawn l.drawn.0 (packet ∷ [])));
        counts = l.counts;
        room = omega (arith, l.room, more, placed);
        few = l.few;
        sends = λ some_put. some_open;
        learnt = tt;
        size = l.size;
        emptied = λ i low. elim (l.emptied i low) [
          | inl out ↦ inl out
          | inr here ↦ inr (home (cell c (k.takes + i)) (place-own P caps c (k.takes + i) (omega (arith, l.size, l.room, short, low))) ∙ here)
        ];
        filled = λ i high below. elim (l.filled i high below) [
          | inl out ↦ no-some _ x.out out.0 inside out.1
          | inr here ↦ inr (home (cell c (k.takes + i)) (place-own P caps c (k.takes + i) (omega (arith, l.size, below))) ∙ here ∙ ap (λ zs. some (some (slot.Cell (slice_get zs i)))) whole)
        ];
        numbers = omega (arith, l.numbers, more);
        puts = count-same s' (puts_slot P c) (k.puts + length x.placed) (k.puts + 1 + length (drop 1 x.placed)) x.out (omega (arith, placed)) (count-keep s s' (puts_slot P c) (k.puts + length x.placed) x.out (home (puts_slot P c) (inl refl)) l.puts);
        takes = count-keep s s' (takes_slot P C c) (k.takes + length y.drawn) y.out (home (takes_slot P C c) (inr (inl refl))) l.takes;
      }

  -- A turn closes a sender, all of whose puts are published.
  pub so-closed : (s s' : St K) (c output : ℕ) (k : ChannelShown) (x : Sending) (y : Receiving) → get_or s'.words (level_rank P c) 0 ≡ get_or s.words (level_rank P c) 0 → SameSlots c s s' → x.unpublished ≡ 0 → 0 < k.open_senders → LiesSo start s c k x y
      → LiesSo start s' c (shown_changed (Closed output) k) (sent_by (Closed output) x) y
  so-closed s s' c output k x y word home published some_open l =
      let count : k.open_senders + x.unsubtracted ≡ k.open_senders - 1 + (x.unsubtracted + 1) = omega (arith, some_open) in
      let short = drawn-short s c k x y l in
      record {
        level = l.level;
        word = word ∙ l.word ∙ ap (free_word l.level) count;
        counted = l.counted;
        drawn = l.drawn;
        counts = l.counts;
        room = l.room;
        few = (l.few.0, omega (arith, l.few.1, count));
        sends = λ some_put. absurd (omega (arith, some_put, published));
        learnt = learnt x.learnt l.learnt;
        size = l.size;
        emptied = λ i low. elim (l.emptied i low) [
          | inl out ↦ inl out
          | inr here ↦ inr (home (cell c (k.takes + i)) (place-own P caps c (k.takes + i) (omega (arith, l.size, l.room, short, low))) ∙ here)
        ];
        filled = λ i high below. elim (l.filled i high below) [
          | inl out ↦ inl out
          | inr here ↦ inr (home (cell c (k.takes + i)) (place-own P caps c (k.takes + i) (omega (arith, l.size, below))) ∙ here)
        ];
        numbers = l.numbers;
        puts = count-keep s s' (puts_slot P c) (k.puts + length x.placed) x.out (home (puts_slot P c) (inl refl)) l.puts;
        takes = count-keep s s' (takes_slot P C c) (k.takes + length y.drawn) y.out (home (takes_slot P C c) (inr (inl refl))) l.takes;
      }
    where
      learnt : (told : Option ℕ) → IsLearnt k told → IsLearnt (shown_changed (Closed output) k) told
      learnt None t = tt
      learnt (Some level) t = t

  -- Where the level counts a packet that wasn't drawn, the oldest such packet is in its cell, and the number of takes in its slot.
  pub cell-oldest : (s : St K) (c : ℕ) (k : ChannelShown) (x : Sending) (y : Receiving) (packet : Tree) → LiesSo start s c k x y → slice_get k.packets (length y.drawn) ≡ Some packet
      → IsHome s (cell c (k.takes + length y.drawn)) (slot.Cell (Some packet))
  cell-oldest s c k x y packet l is =
      let i : ℕ = length y.drawn in
      let inside : i < length k.packets = within k.packets i packet is in
      elim (l.filled i (omega arith) (omega (arith, inside, l.room))) [
        | inl out ↦ absurd (omega (arith, out.2, inside))
        | inr here ↦ here ∙ ap (λ z. some (some (slot.Cell z))) (in-first k.packets x.placed i packet is)
      ]
    where
      within : (xs : List Tree) (i : ℕ) (t : Tree) → slice_get xs i ≡ Some t → i < length xs
      within [] i t is = absurd (cc)
      within (u ∷ xs) zero t is = omega arith
      within (u ∷ xs) (suc i) t is = omega (arith, within xs i t is)

      in-first : (xs ys : List Tree) (i : ℕ) (t : Tree) → slice_get xs i ≡ Some t → slice_get (xs ++ ys) i ≡ Some t
      in-first [] ys i t is = absurd (cc)
      in-first (u ∷ xs) ys zero t is = is
      in-first (u ∷ xs) ys (suc i) t is = in-first xs ys i t is

  -- It is drawn: its cell and the number of takes are out.
  pub so-drawn : (s : St K) (ws : List ℕ) (vs : List (View K)) (c : ℕ) (k : ChannelShown) (x : Sending) (y : Receiving) (packet : Tree) → c < C → get_or ws (level_rank P c) 0 ≡ get_or s.words (level_rank P c) 0 → (l : LiesSo start s c k x y) → y.out ≡ None → length y.drawn + y.unwithdrawn < l.level
      → slice_get k.packets (length y.drawn) ≡ Some packet
      → LiesSo start (state ws (set (set s.homes (cell c (k.takes + length y.drawn)) none) (takes_slot P C c) none) vs) c k x (record y { drawn = y.drawn ++ packet ∷ []; out = Some (k.takes + length y.drawn) })
  so-drawn s ws vs c k x y packet low word l inside some_level is =
      let d : ℕ = length y.drawn in
      let z = cell c (k.takes + d) in
      let t = takes_slot P C c in
      let hs1 = set s.homes z none in
      let s' : St K = state ws (set hs1 t none) vs in
      let more : length (y.drawn ++ packet ∷ []) ≡ d + 1 = length-append y.drawn (packet ∷ []) in
      let drawn = part-more k.packets y.drawn l.drawn.0 packet l.drawn.1 is in
      let short : d + 1 ≤ length k.packets = omega (arith, ap length drawn.1, length-append (y.drawn ++ packet ∷ []) drawn.0, more) in
      let d_below : d < k.capacity = omega (arith, short, l.room) in
      record {
        level = l.level;
        word = word ∙ l.word;
        counted = l.counted;
        drawn = drawn;
        counts = omega (arith, more, some_level);
        room = l.room;
        few = l.few;
        sends = l.sends;
        learnt = l.learnt;
        size = l.size;
        emptied = λ i i_low. dite (ℕ_discrete i d)
            (λ e. inl (k.takes + d, refl, omega (arith, e, more)))
            (λ other. elim (l.emptied i (omega (arith, i_low, more, other))) [
              | inl out ↦ no-some _ y.out out.0 inside out.1
              | inr here ↦ inr (else i (omega (arith, i_low, more, other, d_below)) other ∙ here)
            ]);
        filled = λ i high below. elim (l.filled i (omega (arith, high, more)) below) [
          | inl out ↦ inl out
          | inr here ↦ inr (else i below (λ e. omega (arith, e, high, more)) ∙ here)
        ];
        numbers = l.numbers;
        puts = count-keep s s' (puts_slot P c) (k.puts + length x.placed) x.out (set_else hs1 t (puts_slot P c) none (λ e. omega (arith, e, low)) ∙ set_else s.homes z (puts_slot P c) none (λ e. place-puts P caps c c (k.takes + d) low (sym e))) l.puts;
        takes = omega (arith, more);
      }
    where
      else : (i : ℕ) → i < k.capacity → i ≢ length y.drawn → get_elem? (set (set s.homes (cell c (k.takes + length y.drawn)) none) (takes_slot P C c) none) (cell c (k.takes + i)) ≡ get_elem? s.homes (cell c (k.takes + i))
      else i below other =
          let d : ℕ = length y.drawn in
          let short = drawn-short s c k x y l in
          let d_in : d < k.capacity = omega (arith, some_level, l.counts, l.counted, l.room, l.level) in
          set_else (set s.homes (cell c (k.takes + d)) none) (takes_slot P C c) (cell c (k.takes + i)) none (place-takes P caps c c (k.takes + i) low)
          ∙ set_else s.homes (cell c (k.takes + d)) (cell c (k.takes + i)) none (place-else P caps c k.takes i d (omega (arith, below, l.size)) (omega (arith, d_in, l.size)) other)

  -- It is back, and so is the number of takes.
  pub so-emptied : (s : St K) (ws : List ℕ) (vs : List (View K)) (c place : ℕ) (k : ChannelShown) (x : Sending) (y : Receiving) → c < C → get_or ws (level_rank P c) 0 ≡ get_or s.words (level_rank P c) 0 → length s.homes ≡ slot_count P caps → LiesSo start s c k x y → y.out ≡ Some place → 0 < length y.drawn
      → LiesSo start (state ws (set (set s.homes (takes_slot P C c) (some (slot.Count (place + 1)))) (cell c place) (some (slot.Cell None))) vs) c k x (record y { out = None })
  so-emptied s ws vs c place k x y low word deep l out some_drawn =
      let t = takes_slot P C c in
      let z = cell c place in
      let count = some (slot.Count (place + 1)) in
      let hs1 = set s.homes t count in
      let s' : St K = state ws (set hs1 z (some (slot.Cell None))) vs in
      let short = drawn-short s c k x y l in
      let where_is : place + 1 ≡ k.takes + length y.drawn = subst (CountLies s t (k.takes + length y.drawn)) out l.takes in
      let some_one : 0 < get_or caps c 0 = omega (arith, l.size, l.room, short, some_drawn) in
      let z_in : z < slot_count P caps = own-within P caps c z low (place-own P caps c place some_one) in
      let t_in : t < slot_count P caps = own-within P caps c t low (inr (inl refl)) in
      record {
        level = l.level;
        word = word ∙ l.word;
        counted = l.counted;
        drawn = l.drawn;
        counts = l.counts;
        room = l.room;
        few = l.few;
        sends = l.sends;
        learnt = l.learnt;
        size = l.size;
        emptied = λ i i_low. dite (ℕ_discrete (i + 1) (length y.drawn))
            (λ e. inr (ap (λ w. get_elem? (set hs1 z (some (slot.Cell None))) (cell c w)) (let w : k.takes + i ≡ place = omega (arith, e, where_is) in w) ∙ set_here hs1 z (some (slot.Cell None)) (omega (arith, deep, z_in, length-set s.homes t count))))
            (λ other. elim (l.emptied i i_low) [
              | inl was ↦ absurd (other was.2)
              | inr here ↦ inr (else i (omega (arith, i_low, short, l.room)) other ∙ here)
            ]);
        filled = λ i high below. elim (l.filled i high below) [
          | inl was ↦ inl was
          | inr here ↦ inr (else i below (λ e. omega (arith, e, high)) ∙ here)
        ];
        numbers = l.numbers;
        puts = count-keep s s' (puts_slot P c) (k.puts + length x.placed) x.out (set_else hs1 z (puts_slot P c) (some (slot.Cell None)) (λ e. place-puts P caps c c place low (sym e)) ∙ set_else s.homes t (puts_slot P c) count (λ e. omega (arith, e, low))) l.puts;
        takes = set_else hs1 z t (some (slot.Cell None)) (λ e. place-takes P caps c c place low (sym e)) ∙ set_here s.homes t count (omega (arith, deep, t_in)) ∙ ap (λ w. some (some (slot.Count w))) where_is;
      }
    where
      else : (i : ℕ) → i < k.capacity → (i + 1) ≢ length y.drawn → get_elem? (set (set s.homes (takes_slot P C c) (some (slot.Count (place + 1)))) (cell c place) (some (slot.Cell None))) (cell c (k.takes + i)) ≡ get_elem? s.homes (cell c (k.takes + i))
      else i below other =
          let d : ℕ = length y.drawn - 1 in
          let short = drawn-short s c k x y l in
          let where_is : place + 1 ≡ k.takes + length y.drawn = subst (CountLies s (takes_slot P C c) (k.takes + length y.drawn)) out l.takes in
          let at_d : place ≡ k.takes + d = omega (arith, where_is, some_drawn) in
          set_else (set s.homes (takes_slot P C c) (some (slot.Count (place + 1)))) (cell c place) (cell c (k.takes + i)) (some (slot.Cell None))
          (λ e. place-else P caps c k.takes i d (omega (arith, below, l.size)) (omega (arith, l.size, l.room, short, some_drawn)) (λ same. other (omega (arith, same, some_drawn))) (e ∙ ap (cell c) at_d))
          ∙ set_else s.homes (takes_slot P C c) (cell c (k.takes + i)) (some (slot.Count (place + 1))) (place-takes P caps c c (k.takes + i) low)

  -- Where there is room, the cell behind all packets is at home, and empty.
  pub cell-behind : (s : St K) (c : ℕ) (k : ChannelShown) (x : Sending) (y : Receiving) → LiesSo start s c k x y → x.out ≡ None → length k.packets + length x.placed < k.capacity → IsHome s (cell c (k.puts + length x.placed)) (slot.Cell None)
  cell-behind s c k x y l inside room =
      let i : ℕ = length k.packets + length x.placed in
      let short = drawn-short s c k x y l in
      ap (λ z. get_elem? s.homes (cell c z)) (let z : k.puts + length x.placed ≡ k.takes + i = omega (arith, l.numbers) in z)
      ∙ (elim (l.filled i (omega (arith, short)) room) [
        | inl out ↦ no-some _ x.out out.0 inside out.1
        | inr here ↦ here
      ])
      ∙ ap (λ z. some (some (slot.Cell z))) (get-over (k.packets ++ x.placed) i (omega (arith, length-append k.packets x.placed)))

  -- That cell is taken out, to place a packet, and the number of puts.
  pub so-placed : (s : St K) (ws : List ℕ) (vs : List (View K)) (c : ℕ) (k : ChannelShown) (x : Sending) (y : Receiving) (packet : Tree) → c < C → get_or ws (level_rank P c) 0 ≡ get_or s.words (level_rank P c) 0 → LiesSo start s c k x y → x.out ≡ None → length k.packets + y.unwithdrawn + length x.placed < k.capacity
      → LiesSo start (state ws (set (set s.homes (cell c (k.puts + length x.placed)) none) (puts_slot P c) none) vs) c k (record x { placed = x.placed ++ packet ∷ []; out = Some (k.puts + length x.placed) }) y
  so-placed s ws vs c k x y packet low word l inside room =
      let n : ℕ = length k.packets + length x.placed in
      let z = cell c (k.puts + length x.placed) in
      let t = puts_slot P c in
      let hs1 = set s.homes z none in
      let s' : St K = state ws (set hs1 t none) vs in
      let more : length (x.placed ++ packet ∷ []) ≡ length x.placed + 1 = length-append x.placed (packet ∷ []) in
      let short = drawn-short s c k x y l in
      let all : length (k.packets ++ x.placed) ≡ n = length-append k.packets x.placed in
      let whole : (k.packets ++ x.placed) ++ packet ∷ [] ≡ k.packets ++ (x.placed ++ packet ∷ []) = sym (push-assoc-all k.packets x.placed (packet ∷ [])) in
      record {
        level = l.level;
        word = word ∙ l.word;
        counted = l.counted;
        drawn = l.drawn;
        counts = l.counts;
        room = omega (arith, room, more);
        few = l.few;
        sends = l.sends;
        learnt = l.learnt;
        size = l.size;
        emptied = λ i i_low. elim (l.emptied i i_low) [
          | inl out ↦ inl out
          | inr here ↦ inr (else i (omega (arith, i_low, short, room)) (λ e. omega (arith, e, i_low, short)) ∙ here)
        ];
        filled = λ i high below. dite (ℕ_discrete i n)
            (λ e. inl (k.puts + length x.placed, refl, omega (arith, e), omega (arith, e, more)))
            (λ other. elim (l.filled i high below) [
              | inl out ↦ no-some _ x.out out.0 inside out.1
              | inr here ↦ inr (else i below other ∙ here ∙ ap (λ w. some (some (slot.Cell w))) (sym (get-push-else (k.packets ++ x.placed) packet i (λ e. other (e ∙ all))) ∙ ap (λ zs. slice_get zs i) whole))
            ]);
        numbers = l.numbers;
        puts = omega (arith, more);
        takes = count-keep s s' (takes_slot P C c) (k.takes + length y.drawn) y.out (set_else hs1 t (takes_slot P C c) none (λ e. omega (arith, e, low)) ∙ set_else s.homes z (takes_slot P C c) none (λ e. place-takes P caps c c (k.puts + length x.placed) low (sym e))) l.takes;
      }
    where
      else : (i : ℕ) → i < k.capacity → i ≢ length k.packets + length x.placed → get_elem? (set (set s.homes (cell c (k.puts + length x.placed)) none) (puts_slot P c) none) (cell c (k.takes + i)) ≡ get_elem? s.homes (cell c (k.takes + i))
      else i below other =
          let n : ℕ = length k.packets + length x.placed in
          let at_n : k.puts + length x.placed ≡ k.takes + n = omega (arith, l.numbers) in
          set_else (set s.homes (cell c (k.puts + length x.placed)) none) (puts_slot P c) (cell c (k.takes + i)) none (place-puts P caps c c (k.takes + i) low)
          ∙ set_else s.homes (cell c (k.puts + length x.placed)) (cell c (k.takes + i)) none
          (λ e. place-else P caps c k.takes i n (omega (arith, below, l.size)) (omega (arith, room, l.size)) other (e ∙ ap (cell c) at_n))

  -- It is back with the packet, and so is the number of puts.
  pub so-filled : (s : St K) (ws : List ℕ) (vs : List (View K)) (c place : ℕ) (k : ChannelShown) (x : Sending) (y : Receiving) (before : List Tree) (packet : Tree) → c < C → get_or ws (level_rank P c) 0 ≡ get_or s.words (level_rank P c) 0 → length s.homes ≡ slot_count P caps → LiesSo start s c k x y → x.out ≡ Some place
      → x.placed ≡ before ++ packet ∷ []
      → LiesSo start (state ws (set (set s.homes (puts_slot P c) (some (slot.Count (place + 1)))) (cell c place) (some (slot.Cell (Some packet)))) vs) c k (record x { out = None }) y
  so-filled s ws vs c place k x y before packet low word deep l out placed =
      let t = puts_slot P c in
      let z = cell c place in
      let count = some (slot.Count (place + 1)) in
      let hs1 = set s.homes t count in
      let packed = some (slot.Cell (Some packet)) in
      let s' : St K = state ws (set hs1 z packed) vs in
      let short = drawn-short s c k x y l in
      let many : length x.placed ≡ length before + 1 = ap length placed ∙ length-append before (packet ∷ []) in
      let where_is : place + 1 ≡ k.puts + length x.placed = subst (CountLies s t (k.puts + length x.placed)) out l.puts in
      let n : ℕ = length k.packets + length before in
      let some_one : 0 < get_or caps c 0 = omega (arith, l.size, l.room, many) in
      let z_in : z < slot_count P caps = own-within P caps c z low (place-own P caps c place some_one) in
      let t_in : t < slot_count P caps = own-within P caps c t low (inl refl) in
      let last : slice_get (k.packets ++ x.placed) n ≡ Some packet = ap (λ zs. slice_get (k.packets ++ zs) n) placed ∙ ap (λ zs. slice_get zs n) (push-assoc-all k.packets before (packet ∷ [])) ∙ ap (slice_get ((k.packets ++ before) ++ packet ∷ [])) (sym (length-append k.packets before)) ∙ get-push (k.packets ++ before) packet in
      record {
        level = l.level;
        word = word ∙ l.word;
        counted = l.counted;
        drawn = l.drawn;
        counts = l.counts;
        room = l.room;
        few = l.few;
        sends = l.sends;
        learnt = l.learnt;
        size = l.size;
        emptied = λ i i_low. elim (l.emptied i i_low) [
          | inl was ↦ inl was
          | inr here ↦ inr (else i (omega (arith, i_low, short, l.room)) (λ e. omega (arith, e, i_low, short)) ∙ here)
        ];
        filled = λ i high below. dite (ℕ_discrete i n)
            (λ e. inr (ap (λ w. get_elem? (set hs1 z packed) (cell c w)) (let w : k.takes + i ≡ place = omega (arith, e, where_is, many, l.numbers) in w) ∙ set_here hs1 z packed (omega (arith, deep, z_in, length-set s.homes t count))
            ∙ ap (λ w. some (some (slot.Cell w))) (sym (ap (slice_get (k.packets ++ x.placed)) e ∙ last))))
            (λ other. elim (l.filled i high below) [
              | inl was ↦ absurd (other (omega (arith, was.3, many)))
              | inr here ↦ inr (else i below other ∙ here)
            ]);
        numbers = l.numbers;
        puts = set_else hs1 z t packed (λ e. place-puts P caps c c place low (sym e)) ∙ set_here s.homes t count (omega (arith, deep, t_in)) ∙ ap (λ w. some (some (slot.Count w))) where_is;
        takes = count-keep s s' (takes_slot P C c) (k.takes + length y.drawn) y.out (set_else hs1 z (takes_slot P C c) packed (λ e. place-takes P caps c c place low (sym e)) ∙ set_else s.homes t (takes_slot P C c) count (λ e. omega (arith, e, low))) l.takes;
      }
    where
      else : (i : ℕ) → i < k.capacity → i ≢ length k.packets + length before
          → get_elem? (set (set s.homes (puts_slot P c) (some (slot.Count (place + 1)))) (cell c place) (some (slot.Cell (Some packet)))) (cell c (k.takes + i)) ≡ get_elem? s.homes (cell c (k.takes + i))
      else i below other =
          let many : length x.placed ≡ length before + 1 = ap length placed ∙ length-append before (packet ∷ []) in
          let where_is : place + 1 ≡ k.puts + length x.placed = subst (CountLies s (puts_slot P c) (k.puts + length x.placed)) out l.puts in
          let n : ℕ = length k.packets + length before in
          let at_n : place ≡ k.takes + n = omega (arith, where_is, many, l.numbers) in
          set_else (set s.homes (puts_slot P c) (some (slot.Count (place + 1)))) (cell c place) (cell c (k.takes + i)) (some (slot.Cell (Some packet)))
          (λ e. place-else P caps c k.takes i n (omega (arith, below, l.size)) (omega (arith, l.size, l.room, many)) other (e ∙ ap (cell c) at_n))
          ∙ set_else s.homes (puts_slot P c) (cell c (k.takes + i)) (some (slot.Count (place + 1))) (place-puts P caps c c (k.takes + i) low)
