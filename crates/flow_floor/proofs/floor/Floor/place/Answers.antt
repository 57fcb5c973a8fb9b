use Rattle.std.proofs.Common.{◌≡◌, ◌+◌, ℕ, List, [], ◌∷◌, ◌++◌, length, Option, None, Some, arith, refl, sym, ap, ◌∙◌, subst}
use Rattle.std.specs.Prelude.{IfSome}
use Rattle.std.specs.Option.{option_map, option_and_then}
use mathlib.Core.Option.{none}
use Rattle.atomic_table.specs.Table.{step, rest, turned}
use Rattle.flow_packet.specs.Tree.{Tree, kind_of}
use Rattle.flow_packet.specs.Held.{without_packet}
use Rattle.flow_packet.specs.Hands.{packet_at}
use Rattle.flow_machine.specs.Effects.{id_sent}
use Rattle.flow_machine.specs.Nets.{packet_wished}
use Rattle.flow_machine.proofs.NetTurns.{if_some}
use Rattle.flow_ring.specs.Places.{puts_slot, place_slot}
use Rattle.flow_floor.proofs.Lists.{head-is}
use Rattle.flow_floor.proofs.Spacing.{took, told, apart}
use Rattle.flow_component.specs.Laws.{Rules}
use Rattle.flow_floor.specs.declared.board.Sending.{Sending}
use Rattle.flow_floor.specs.declared.board.Slot.{Slot}
use Rattle.flow_floor.specs.declared.board.Slot.TheVariants as slot
use Rattle.flow_floor.specs.declared.board.View.{View}
use Rattle.flow_floor.specs.Ends.{capacities_of}
use Rattle.flow_floor.specs.Plays.{placed, filled, WouldAlwaysHold}
use Rattle.flow_floor.specs.Views.{placing, filling, seeing}
use Rattle.flow_floor.specs.Workers.{view}
use Rattle.flow_floor.proofs.Drawing.{places, fills, place-here}
use Rattle.flow_floor.proofs.Seated.{seated-next, seated-with, seated-out}
use Rattle.flow_floor.proofs.Slots.{count-is}
use Rattle.flow_floor.proofs.floor.Floor.place.Goals as goal
use Rattle.flow_floor.proofs.floor.Floor.place.Goals.{After-load-word, After-outgoing-packet, After-turn-3}

pub load-word-requires : goal.load-word-requires
load-word-requires g c = let f = c.args.self.now in let q = c.requires.seated in let s = c.args.worker.now.seat in let place = c.level_word-word_at.ensures in
    let b = c.requires.spot in
    let h = place-here c.args.connection (view c.args.worker.now).sending c.requires.may in (
      q.table,
      omega (arith, f.words, place, c.requires.range),
      apart g.K.Component.rules f.table.shared.key.value f.table.shared.table_id.slots s.id s.me (f.layout.processes + c.args.connection) c.level_word-word_at.result (λ n. n) (λ i. placed g.K.Component.rules g.S.Spot.processes g.S.Spot.capacities g.S.Spot.connection g.S.Spot.most g.B.Parcel.packet (step f.table.shared.table_id.slots i 0 0 none) s.me) (omega (arith, place))
          (rw (b.0, b.1, b.2, b.3, ← f.bodies)
          (places g.K.Component.rules g.met.K.Component.lawful f.table.shared.key.value _ _ _ c.args.held.now.process c.args.connection c.args.most _ q.base h.0 g.B.Parcel.packet refl (omega (arith, f.channels, c.requires.range)) c.requires.most q.held c.requires.withdrawn h.1 h.2 h.3 h.4)),
    )

-- what the step told, of the level's number
told-of : (g : _) (c : After-load-word g) → placed g.K.Component.rules c.args.self.now.layout.processes (capacities_of c.args.self.now.table.shared.key.value) c.args.connection c.args.most g.B.Parcel.packet (step c.args.self.now.table.shared.table_id.slots (c.args.self.now.layout.processes + c.args.connection) 0 0 none) c.args.worker.now.seat.me c.load-word.result c.load-word.new.seat.me
told-of g c = let f = c.args.self.now in let place = c.level_word-word_at.ensures in let b = c.requires.spot in
    subst (λ (z : ℕ × (List ℕ × (ℕ × ℕ))). placed g.K.Component.rules z.0 z.1.0 z.1.1.0 z.1.1.1 g.B.Parcel.packet (step f.table.shared.table_id.slots (f.layout.processes + c.args.connection) 0 0 none) c.args.worker.now.seat.me c.load-word.result c.load-word.new.seat.me) (λ j. (b.0 j, (b.1 j, (b.2 j, b.3 j))))
    (told (λ i. placed g.K.Component.rules g.S.Spot.processes g.S.Spot.capacities g.S.Spot.connection g.S.Spot.most g.B.Parcel.packet (step f.table.shared.table_id.slots i 0 0 none) c.args.worker.now.seat.me c.load-word.result c.load-word.new.seat.me)
    (f.layout.processes + c.args.connection) c.level_word-word_at.result (omega (arith, place)) c.load-word.ensures.2)

pub returns-then-level-most-clause-seated : goal.returns-then-level-most-clause-seated
returns-then-level-most-clause-seated g c = let f = c.args.self.now in
    let full = (told-of g (goal.at.returns-then-level-most-clause-seated g c).After-load-word).1 (omega (arith, c.level.ensures.word, c.requires.count, c.requires.fits, c.if-level-most.true)) in
    seated-next f.table.shared.table_id f.layout.processes c.args.worker.now (record { seat = c.load-word.new.seat; woken = c.args.worker.now.woken }) c.args.held.now (seeing (view c.args.worker.now) (f.layout.processes + c.args.connection) c.load-word.result) c.requires.seated c.load-word.ensures.0 full refl refl refl

pub count_up-place-requires : goal.count_up-place-requires
count_up-place-requires g c = let f = c.args.self.now in
    let t = (told-of g (goal.at.count_up-place-requires g c).After-load-word).0 (omega (arith, c.level.ensures.word, c.requires.count, c.requires.fits, c.if-level-most.false)) in
    let ps = puts_slot f.layout.processes c.args.connection in
    record { table = c.load-word.ensures.0 ∙ c.requires.seated.table; number = (t.0, omega (arith, t.1), took _ _ ps c.end_slots-slot.result.0 (slot.Count t.0) c.end_slots-slot.ensures.puts (ap (λ m. m.1) t.3)) }

-- What came out: the number of puts, and an empty cell; what the step told; and the slots, the cell's first.
record Out {K : Type 0} (rules : Rules K) (v w : View K) (capacities : List ℕ) (n c p place cell at : ℕ) (packet : Tree) (slots : List (ℕ × Slot K)) : Type 0 where
  puts : ℕ
  puts_is : puts ≡ place
  would : WouldAlwaysHold rules n (length capacities) v
  view_is : w ≡ placing v puts packet
  slots_are : slots ≡ (cell, slot.Cell None) ∷ (p, slot.Vacant) ∷ (at, slot.Count (place + 1)) ∷ []
  cell_is : cell ≡ place_slot n capacities c puts
  at_is : at ≡ puts_slot n c

out-of : (g : _) (c : After-outgoing-packet g) → placed g.K.Component.rules c.args.self.now.layout.processes (capacities_of c.args.self.now.table.shared.key.value) c.args.connection c.args.most g.B.Parcel.packet (step c.args.self.now.table.shared.table_id.slots (c.args.self.now.layout.processes + c.args.connection) 0 0 none) c.args.worker.now.seat.me c.load-word.result c.load-word.new.seat.me
    → Out g.K.Component.rules c.args.worker.now.seat.me.0 c.turn.new.self.me.0 (capacities_of c.args.self.now.table.shared.key.value) c.args.self.now.layout.processes c.args.connection c.args.held.now.process c.count_up-place.result c.cell-cell.result c.end_slots-slot.result.0 g.B.Parcel.packet c.turn.new.self.me.1
out-of g c found = let f = c.args.self.now in let q = c.requires.seated in let x = c.count_up-place.ensures in let n = c.count_up-place.result in
    let p = c.args.held.now.process in
    let at_slot = c.end_slots-slot.result.0 in
    let t = found.0 (omega (arith, c.level.ensures.word, c.requires.count, c.requires.fits, c.if-level-most.false)) in
    let us = puts_slot f.layout.processes c.args.connection in
    let ps = place_slot f.layout.processes (capacities_of f.table.shared.key.value) c.args.connection t.0 in
    let at : at_slot ≡ us = c.end_slots-slot.ensures.puts in
    let l0 : c.load-word.new.seat.me.1 ≡ (us, slot.Count t.0) ∷ (ps, slot.Cell None) ∷ (p, slot.Vacant) ∷ [] = ap (λ m. m.1) t.3 ∙ ap (λ xs. (us, slot.Count t.0) ∷ (ps, slot.Cell None) ∷ xs) q.slots in
    let listed : (us, slot.Count n) ∷ rest c.load-word.new.seat.me.1 ≡ (us, slot.Count t.0) ∷ (ps, slot.Cell None) ∷ (p, slot.Vacant) ∷ [] = (λ j. (sym at j, slot.Count n) ∷ rest c.load-word.new.seat.me.1) ∙ sym x.found ∙ l0 in
    let slot_is : slot.Count n ≡ slot.Count t.0 = head-is us (slot.Count n) (slot.Count t.0) (rest c.load-word.new.seat.me.1) ((ps, slot.Cell None) ∷ (p, slot.Vacant) ∷ []) listed in
    let n_is : t.0 ≡ n = count-is (slot.Count n) t.0 n slot_is refl in
    let cell : c.cell-cell.result ≡ ps = c.cell-cell.ensures ∙ (λ i. place_slot f.layout.processes (f.capacities i) c.args.connection (sym n_is i)) in
    let l2 : c.count_up-place.new.seat.me.1 ≡ (at_slot, slot.Count (n + 1)) ∷ (ps, slot.Cell None) ∷ (p, slot.Vacant) ∷ [] = ap (λ m. m.1) x.me ∙ (λ j. (at_slot, slot.Count (n + 1)) ∷ rest (l0 j)) in
    let l3 : c.turn.new.self.me.1 ≡ (c.cell-cell.result, slot.Cell None) ∷ (p, slot.Vacant) ∷ (at_slot, slot.Count (n + 1)) ∷ [] = ap (λ m. m.1) c.turn.ensures.2 ∙ ap turned l2 ∙ (λ j. (sym cell j, slot.Cell None) ∷ (p, slot.Vacant) ∷ (at_slot, slot.Count (n + 1)) ∷ []) in
    record { puts = t.0; puts_is = n_is; would = t.2; view_is = ap (λ m. m.0) c.turn.ensures.2 ∙ ap (λ m. m.0) x.me ∙ ap (λ m. m.0) t.3; slots_are = l3; cell_is = cell; at_is = at }

pub put_in-requires : goal.put_in-requires
put_in-requires g c = let all = goal.at.put_in-requires g c in let o = out-of g all.After-outgoing-packet (told-of g all.After-load-word) in
    record { table = c.turn.ensures.0 ∙ c.count_up-place.ensures.table ∙ c.load-word.ensures.0 ∙ c.requires.seated.table; empty = took _ _ c.cell-cell.result c.cell-cell.result (slot.Cell None) refl o.slots_are }

-- The packet that is found is the one that is wished.
found-there : (f : ℕ → Option Tree) (o : Option ℕ) (id : ℕ) (x : Tree) → o ≡ Some id → IfSome o (λ n. f n ≡ Some x) → option_and_then f o ≡ Some x
found-there f o id x is found = ap (option_and_then f) is ∙ if_some o (λ n. f n ≡ Some x) id is found

agree : (f : ℕ → Option Tree) (o : Option ℕ) (id : ℕ) (x y : Tree) → o ≡ Some id → IfSome o (λ n. f n ≡ Some x) → IfSome (option_and_then f o) (λ z. z ≡ y) → x ≡ y
agree f o id x y is found wished = if_some (option_and_then f o) (λ z. z ≡ y) x (found-there f o id x is found) wished

-- The cell has the packet, and the slots are as they came, the number first.
record Back {K : Type 0} (v w : View K) (capacities : List ℕ) (n c p puts : ℕ) (packet came : Tree) (slots : List (ℕ × Slot K)) : Type 0 where
  packet_is : came ≡ packet
  view_is : w ≡ placing v puts packet
  slots_are : slots ≡ (puts_slot n c, slot.Count (puts + 1)) ∷ (place_slot n capacities c puts, slot.Cell (Some packet)) ∷ (p, slot.Vacant) ∷ []

back-of : (g : _) (c : After-turn-3 g) (o : Out g.K.Component.rules c.args.worker.now.seat.me.0 c.turn.new.self.me.0 (capacities_of c.args.self.now.table.shared.key.value) c.args.self.now.layout.processes c.args.connection c.args.held.now.process c.count_up-place.result c.cell-cell.result c.end_slots-slot.result.0 g.B.Parcel.packet c.turn.new.self.me.1)
    → Back c.args.worker.now.seat.me.0 c.turn-3.new.self.me.0 (capacities_of c.args.self.now.table.shared.key.value) c.args.self.now.layout.processes c.args.connection c.args.held.now.process o.puts g.B.Parcel.packet c.outgoing-packet.result c.turn-3.new.self.me.1
back-of g c o = let f = c.args.self.now in let x = c.put_in.ensures in
    let cell = c.cell-cell.result in
    let at = c.end_slots-slot.result.0 in
    let p = c.args.held.now.process in
    let n = c.count_up-place.result in
    let came = c.outgoing-packet.result in
    let body = c.args.held.now.body.process in
    let wish = c.requires.wishes in
    let packet_is : came ≡ g.B.Parcel.packet = agree (packet_at body.held.packets) (id_sent body.stage) wish.1 came g.B.Parcel.packet (ap id_sent wish.2) c.outgoing-packet.ensures.packet c.requires.parcel in
    let l3 : c.put_in.new.seat.me.1 ≡ (cell, slot.Cell (Some came)) ∷ (p, slot.Vacant) ∷ (at, slot.Count (n + 1)) ∷ [] = ap (λ m. m.1) x.me ∙ (λ j. (cell, slot.Cell (Some came)) ∷ rest (o.slots_are j)) in
    let l5 : c.turn-3.new.self.me.1 ≡ (at, slot.Count (n + 1)) ∷ (cell, slot.Cell (Some came)) ∷ (p, slot.Vacant) ∷ [] = ap (λ m. m.1) c.turn-3.ensures.2 ∙ ap turned (ap (λ m. m.1) c.turn-2.ensures.2 ∙ ap turned l3) in
    record {
      packet_is = packet_is;
      view_is = ap (λ m. m.0) c.turn-3.ensures.2 ∙ ap (λ m. m.0) c.turn-2.ensures.2 ∙ ap (λ m. m.0) x.me ∙ o.view_is;
      slots_are = l5 ∙ (λ j. (o.at_is j, slot.Count (sym o.puts_is j + 1)) ∷ (o.cell_is j, slot.Cell (Some (packet_is j))) ∷ (p, slot.Vacant) ∷ []);
    }

pub load-requires : goal.load-requires
load-requires g c = let f = c.args.self.now in let q = c.requires.seated in let s = c.turn-3.new.self in let place = c.level_word-word_at.ensures in
    let all = goal.at.load-requires g c in
    let o = out-of g all.After-outgoing-packet (told-of g all.After-load-word) in
    let k = back-of g all.After-turn-3 o in
    let h = place-here c.args.connection (view c.args.worker.now).sending c.requires.may in
    let packet = g.B.Parcel.packet in (
      c.turn-3.ensures.0 ∙ c.turn-2.ensures.0 ∙ c.put_in.ensures.table ∙ c.turn.ensures.0 ∙ c.count_up-place.ensures.table ∙ c.load-word.ensures.0 ∙ q.table,
      omega (arith, f.words, place, c.requires.range),
      apart g.K.Component.rules f.table.shared.key.value f.table.shared.table_id.slots s.id s.me (f.layout.processes + c.args.connection) c.level_word-word_at.result (λ n. n) (λ i. filled (step f.table.shared.table_id.slots i 0 0 none) s.me) (omega (arith, place))
          (fills g.K.Component.rules g.met.K.Component.lawful f.table.shared.key.value f.table.shared.table_id.slots _ s.id c.args.held.now.process c.args.connection o.puts s.me q.base (record h.0 { placed = h.0.placed ++ packet ∷ []; out = Some o.puts }) h.0.placed packet _ (omega (arith, f.channels, c.requires.range))
          (ap (λ (v : View _). v.held) k.view_is ∙ q.held) (ap (λ (v : View _). v.sending) k.view_is ∙ ap (option_map (λ (x : Sending). record x { placed = x.placed ++ packet ∷ []; out = Some o.puts })) h.1) h.2 refl refl
          (k.slots_are ∙ (λ j. (puts_slot (sym f.bodies j) c.args.connection, slot.Count (o.puts + 1)) ∷ (place_slot (sym f.bodies j) (capacities_of f.table.shared.key.value) c.args.connection o.puts, slot.Cell (Some packet)) ∷ (c.args.held.now.process, slot.Vacant) ∷ []))),
    )

pub returns-clause-seated : goal.returns-clause-seated
returns-clause-seated g c = let f = c.args.self.now in
    let all = goal.at.returns-clause-seated g c in
    let o = out-of g all.After-outgoing-packet (told-of g all.After-load-word) in
    let k = back-of g all.After-turn-3 o in
    let e = c.load.ensures in
    seated-out f.table.shared.table_id f.layout.processes (record { seat = c.load.new.seat; woken = c.args.worker.now.woken }) c.args.held.now _ refl
    (seated-with f.table.shared.table_id f.layout.processes c.args.worker.now (record { seat = c.load.new.seat; woken = c.args.worker.now.woken }) c.args.held.now (filling (placing (view c.args.worker.now) o.puts g.B.Parcel.packet)) c.requires.seated
    (e.0 ∙ c.turn-3.ensures.0 ∙ c.turn-2.ensures.0 ∙ c.put_in.ensures.table ∙ c.turn.ensures.0 ∙ c.count_up-place.ensures.table ∙ c.load-word.ensures.0)
    (ap (λ m. m.0) e.2 ∙ ap filling k.view_is) (ap (λ m. m.1) e.2 ∙ ap (λ xs. rest (rest xs)) k.slots_are) refl refl refl)

pub returns-then-level-most-clause-placed : goal.returns-then-level-most-clause-placed
returns-then-level-most-clause-placed g c =
    let full = (told-of g (goal.at.returns-then-level-most-clause-placed g c).After-load-word).1 (omega (arith, c.level.ensures.word, c.requires.count, c.requires.fits, c.if-level-most.true)) in
    (omega (arith, c.level.ensures.word, c.requires.fits, c.if-level-most.true), refl, ap (λ m. m.0) full)

pub returns-clause-placed : goal.returns-clause-placed
returns-clause-placed g c =
    let all = goal.at.returns-clause-placed g c in
    let o = out-of g all.After-outgoing-packet (told-of g all.After-load-word) in
    let k = back-of g all.After-turn-3 o in
    let old = c.args.held.now.body in
    let wish = c.requires.wishes in
    let wished : packet_wished old.process ≡ Some g.B.Parcel.packet = found-there (packet_at old.process.held.packets) (id_sent old.process.stage) wish.1 c.outgoing-packet.result (ap id_sent wish.2) c.outgoing-packet.ensures.packet ∙ ap (λ (t : Tree). let r : Option Tree = Some t in r) k.packet_is in (
      omega (arith, c.requires.fits, c.if-level-most.false),
      o.puts,
      ap (λ m. m.0) c.load.ensures.2 ∙ ap filling k.view_is,
      (refl, refl, wished, subst (λ t. IfSome (id_sent old.process.stage) (λ id. c.outgoing-packet.new.self ≡ record old { process = record old.process { held = without_packet old.process.held id }; leaving = Some (kind_of t); places = old.places + 1 })) k.packet_is c.outgoing-packet.ensures.left),
      (let f = c.args.self.now in subst (λ (m : ℕ). WouldAlwaysHold g.K.Component.rules f.layout.processes m (view c.args.worker.now)) f.channels o.would),
    )
