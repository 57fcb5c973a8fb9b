use Rattle.std.proofs.Common.{◌≡◌, ◌+◌, ℕ, List, [], ◌∷◌, ◌++◌, None, Some, length, length-append, arith, refl, sym, ap, ◌∙◌, subst}
use mathlib.Core.Option.{none}
use Rattle.atomic_table.specs.Table.{step, rest, turned}
use Rattle.flow_packet.specs.Tree.{Tree}
use Rattle.flow_ring.specs.Places.{takes_slot, place_slot}
use Rattle.flow_floor.proofs.Lists.{head-is}
use Rattle.flow_floor.proofs.Spacing.{took, told, apart}
use Rattle.flow_component.specs.Laws.{Rules}
use Rattle.flow_floor.specs.declared.board.Slot.{Slot}
use Rattle.flow_floor.specs.declared.board.Slot.TheVariants as slot
use Rattle.flow_floor.specs.declared.board.View.{View}
use Rattle.flow_floor.specs.Ends.{capacities_of}
use Rattle.flow_floor.specs.Plays.{drew, emptied, WouldAlwaysBeThere}
use Rattle.flow_floor.specs.Views.{drawing, emptying, received_at, seeing}
use Rattle.flow_floor.specs.Workers.{view}
use Rattle.flow_floor.proofs.Drawing.{draws, empties, draw-here}
use Rattle.flow_floor.proofs.Seated.{seated-next, seated-with}
use Rattle.flow_floor.proofs.Slots.{count-is, cell-is}
use Rattle.flow_floor.proofs.floor.Floor.draw.Goals as goal
use Rattle.flow_floor.proofs.floor.Floor.draw.Goals.{After-load-word, After-cell-cell, After-turn-3}

pub load-word-requires : goal.load-word-requires
load-word-requires g c = let f = c.args.self.now in let q = c.requires.seated in let s = c.args.worker.now.seat in let place = c.level_word-word_at.ensures in let b = c.requires.spot in (
  q.table,
  omega (arith, f.words, place, c.requires.range),
  apart g.K.Component.rules f.table.shared.key.value f.table.shared.table_id.slots s.id s.me (f.layout.processes + c.args.connection) c.level_word-word_at.result (λ n. n) (λ i. drew g.K.Component.rules g.S.Spot.processes g.S.Spot.capacities g.S.Spot.connection (step f.table.shared.table_id.slots i 0 0 none) s.me) (omega (arith, place))
      (rw (b.0, b.1, b.2, ← f.bodies)
      (draws g.K.Component.rules g.met.K.Component.lawful f.table.shared.key.value _ _ _ c.args.held.now.process c.args.connection _ q.base refl (omega (arith, f.channels, c.requires.range)) q.held c.requires.receives c.requires.may)),
)

-- what the step told, of the level's number
told-of : (g : _) (c : After-load-word g) → drew g.K.Component.rules c.args.self.now.layout.processes (capacities_of c.args.self.now.table.shared.key.value) c.args.connection (step c.args.self.now.table.shared.table_id.slots (c.args.self.now.layout.processes + c.args.connection) 0 0 none) c.args.worker.now.seat.me c.load-word.result c.load-word.new.seat.me
told-of g c = let f = c.args.self.now in let place = c.level_word-word_at.ensures in let b = c.requires.spot in
    subst (λ (z : ℕ × (List ℕ × ℕ)). drew g.K.Component.rules z.0 z.1.0 z.1.1 (step f.table.shared.table_id.slots (f.layout.processes + c.args.connection) 0 0 none) c.args.worker.now.seat.me c.load-word.result c.load-word.new.seat.me) (λ j. (b.0 j, (b.1 j, b.2 j)))
    (told (λ i. drew g.K.Component.rules g.S.Spot.processes g.S.Spot.capacities g.S.Spot.connection (step f.table.shared.table_id.slots i 0 0 none) c.args.worker.now.seat.me c.load-word.result c.load-word.new.seat.me)
    (f.layout.processes + c.args.connection) c.level_word-word_at.result (omega (arith, place)) c.load-word.ensures.2)

pub returns-then-level-drawn-clause-seated : goal.returns-then-level-drawn-clause-seated
returns-then-level-drawn-clause-seated g c = let f = c.args.self.now in
    let few = (told-of g (goal.at.returns-then-level-drawn-clause-seated g c).After-load-word).1 (omega (arith, c.level.ensures.word, c.requires.count, c.if-level-drawn.true)) in
    seated-next f.table.shared.table_id f.layout.processes c.args.worker.now (record { seat = c.load-word.new.seat; woken = c.args.worker.now.woken }) c.args.held.now (seeing (view c.args.worker.now) (f.layout.processes + c.args.connection) c.load-word.result) c.requires.seated c.load-word.ensures.0 few refl refl refl

pub count_up-place-requires : goal.count_up-place-requires
count_up-place-requires g c = let f = c.args.self.now in
    let t = (told-of g (goal.at.count_up-place-requires g c).After-load-word).0 (omega (arith, c.level.ensures.word, c.requires.count, c.if-level-drawn.false)) in
    let ts = takes_slot f.layout.processes (length (capacities_of f.table.shared.key.value)) c.args.connection in
    let at : c.end_slots-slot.result.1 ≡ ts = c.end_slots-slot.ensures.takes ∙ (λ i. takes_slot f.layout.processes (length (f.capacities i)) c.args.connection) in
    record { table = c.load-word.ensures.0 ∙ c.requires.seated.table; number = (t.0, omega (arith, t.1), took _ _ ts c.end_slots-slot.result.1 (slot.Count t.0) at (ap (λ m. m.1) t.4)) }

-- What came out: the number of takes and the packet; what the step told; and the slots, the packet's first.
record Out {K : Type 0} (rules : Rules K) (v w : View K) (capacities : List ℕ) (n c p place cell at : ℕ) (slots : List (ℕ × Slot K)) : Type 0 where
  takes : ℕ
  packet : Tree
  takes_is : takes ≡ place
  would : WouldAlwaysBeThere rules n (length capacities) v c packet
  view_is : w ≡ drawing v c takes packet
  slots_are : slots ≡ (cell, slot.Cell (Some packet)) ∷ (p, slot.Vacant) ∷ (at, slot.Count (place + 1)) ∷ []
  cell_is : cell ≡ place_slot n capacities c takes
  at_is : at ≡ takes_slot n (length capacities) c

out-of : (g : _) (c : After-cell-cell g) → drew g.K.Component.rules c.args.self.now.layout.processes (capacities_of c.args.self.now.table.shared.key.value) c.args.connection (step c.args.self.now.table.shared.table_id.slots (c.args.self.now.layout.processes + c.args.connection) 0 0 none) c.args.worker.now.seat.me c.load-word.result c.load-word.new.seat.me
    → Out g.K.Component.rules c.args.worker.now.seat.me.0 c.turn.new.self.me.0 (capacities_of c.args.self.now.table.shared.key.value) c.args.self.now.layout.processes c.args.connection c.args.held.now.process c.count_up-place.result c.cell-cell.result c.end_slots-slot.result.1 c.turn.new.self.me.1
out-of g c found = let f = c.args.self.now in let q = c.requires.seated in let x = c.count_up-place.ensures in let n = c.count_up-place.result in
    let p = c.args.held.now.process in
    let at_slot = c.end_slots-slot.result.1 in
    let t = found.0 (omega (arith, c.level.ensures.word, c.requires.count, c.if-level-drawn.false)) in
    let ts = takes_slot f.layout.processes (length (capacities_of f.table.shared.key.value)) c.args.connection in
    let ps = place_slot f.layout.processes (capacities_of f.table.shared.key.value) c.args.connection t.0 in
    let at : at_slot ≡ ts = c.end_slots-slot.ensures.takes ∙ (λ i. takes_slot f.layout.processes (length (f.capacities i)) c.args.connection) in
    let l0 : c.load-word.new.seat.me.1 ≡ (ts, slot.Count t.0) ∷ (ps, slot.Cell (Some t.2)) ∷ (p, slot.Vacant) ∷ [] = ap (λ m. m.1) t.4 ∙ ap (λ xs. (ts, slot.Count t.0) ∷ (ps, slot.Cell (Some t.2)) ∷ xs) q.slots in
    let listed : (ts, slot.Count n) ∷ rest c.load-word.new.seat.me.1 ≡ (ts, slot.Count t.0) ∷ (ps, slot.Cell (Some t.2)) ∷ (p, slot.Vacant) ∷ [] = (λ j. (sym at j, slot.Count n) ∷ rest c.load-word.new.seat.me.1) ∙ sym x.found ∙ l0 in
    let slot_is : slot.Count n ≡ slot.Count t.0 = head-is ts (slot.Count n) (slot.Count t.0) (rest c.load-word.new.seat.me.1) ((ps, slot.Cell (Some t.2)) ∷ (p, slot.Vacant) ∷ []) listed in
    let n_is : t.0 ≡ n = count-is (slot.Count n) t.0 n slot_is refl in
    let cell : c.cell-cell.result ≡ ps = c.cell-cell.ensures ∙ (λ i. place_slot f.layout.processes (f.capacities i) c.args.connection (sym n_is i)) in
    let l2 : c.count_up-place.new.seat.me.1 ≡ (at_slot, slot.Count (n + 1)) ∷ (ps, slot.Cell (Some t.2)) ∷ (p, slot.Vacant) ∷ [] = ap (λ m. m.1) x.me ∙ (λ j. (at_slot, slot.Count (n + 1)) ∷ rest (l0 j)) in
    let l3 : c.turn.new.self.me.1 ≡ (c.cell-cell.result, slot.Cell (Some t.2)) ∷ (p, slot.Vacant) ∷ (at_slot, slot.Count (n + 1)) ∷ [] = ap (λ m. m.1) c.turn.ensures.2 ∙ ap turned l2 ∙ (λ j. (sym cell j, slot.Cell (Some t.2)) ∷ (p, slot.Vacant) ∷ (at_slot, slot.Count (n + 1)) ∷ []) in
    record { takes = t.0; packet = t.2; takes_is = n_is; would = t.3; view_is = ap (λ m. m.0) c.turn.ensures.2 ∙ ap (λ m. m.0) x.me ∙ ap (λ m. m.0) t.4; slots_are = l3; cell_is = cell; at_is = at }

pub take_out-packet-requires : goal.take_out-packet-requires
take_out-packet-requires g c = let all = goal.at.take_out-packet-requires g c in let o = out-of g all.After-cell-cell (told-of g all.After-load-word) in
    record { table = c.turn.ensures.0 ∙ c.count_up-place.ensures.table ∙ c.load-word.ensures.0 ∙ c.requires.seated.table; packet = (o.packet, took _ _ c.cell-cell.result c.cell-cell.result (slot.Cell (Some o.packet)) refl o.slots_are) }

some-is : {A : Type 0} (x y : A) → Some x ≡ Some y → x ≡ y
some-is x y e = cc

-- The cell is empty, and the slots are as they came, the number first.
record Back {K : Type 0} (v w : View K) (capacities : List ℕ) (n c p takes : ℕ) (drawn packet : Tree) (slots : List (ℕ × Slot K)) : Type 0 where
  packet_is : drawn ≡ packet
  view_is : w ≡ drawing v c takes drawn
  slots_are : slots ≡ (takes_slot n (length capacities) c, slot.Count (takes + 1)) ∷ (place_slot n capacities c takes, slot.Cell None) ∷ (p, slot.Vacant) ∷ []

back-of : (g : _) (c : After-turn-3 g) (o : Out g.K.Component.rules c.args.worker.now.seat.me.0 c.turn.new.self.me.0 (capacities_of c.args.self.now.table.shared.key.value) c.args.self.now.layout.processes c.args.connection c.args.held.now.process c.count_up-place.result c.cell-cell.result c.end_slots-slot.result.1 c.turn.new.self.me.1)
    → Back c.args.worker.now.seat.me.0 c.turn-3.new.self.me.0 (capacities_of c.args.self.now.table.shared.key.value) c.args.self.now.layout.processes c.args.connection c.args.held.now.process o.takes o.packet c.take_out-packet.result c.turn-3.new.self.me.1
back-of g c o = let f = c.args.self.now in let x = c.take_out-packet.ensures in
    let cell = c.cell-cell.result in
    let at = c.end_slots-slot.result.1 in
    let p = c.args.held.now.process in
    let n = c.count_up-place.result in
    let came = c.take_out-packet.result in
    let listed : (cell, slot.Cell (Some came)) ∷ rest c.turn.new.self.me.1 ≡ (cell, slot.Cell (Some o.packet)) ∷ (p, slot.Vacant) ∷ (at, slot.Count (n + 1)) ∷ [] = sym x.found ∙ o.slots_are in
    let slot_is : slot.Cell (Some came) ≡ slot.Cell (Some o.packet) = head-is cell (slot.Cell (Some came)) (slot.Cell (Some o.packet)) (rest c.turn.new.self.me.1) ((p, slot.Vacant) ∷ (at, slot.Count (n + 1)) ∷ []) listed in
    let l3 : c.take_out-packet.new.seat.me.1 ≡ (cell, slot.Cell None) ∷ (p, slot.Vacant) ∷ (at, slot.Count (n + 1)) ∷ [] = ap (λ m. m.1) x.me ∙ (λ j. (cell, slot.Cell None) ∷ rest (o.slots_are j)) in
    let l5 : c.turn-3.new.self.me.1 ≡ (at, slot.Count (n + 1)) ∷ (cell, slot.Cell None) ∷ (p, slot.Vacant) ∷ [] = ap (λ m. m.1) c.turn-3.ensures.2 ∙ ap turned (ap (λ m. m.1) c.turn-2.ensures.2 ∙ ap turned l3) in
    record {
      packet_is = some-is o.packet came (cell-is (slot.Cell (Some came)) (Some o.packet) (Some came) slot_is refl);
      view_is = ap (λ m. m.0) c.turn-3.ensures.2 ∙ ap (λ m. m.0) c.turn-2.ensures.2 ∙ ap (λ m. m.0) x.me ∙ o.view_is;
      slots_are = l5 ∙ (λ j. (o.at_is j, slot.Count (sym o.takes_is j + 1)) ∷ (o.cell_is j, slot.Cell None) ∷ (p, slot.Vacant) ∷ []);
    }

pub load-requires : goal.load-requires
load-requires g c = let f = c.args.self.now in let q = c.requires.seated in let s = c.turn-3.new.self in let place = c.level_word-word_at.ensures in
    let all = goal.at.load-requires g c in
    let o = out-of g all.After-cell-cell (told-of g all.After-load-word) in
    let k = back-of g all.After-turn-3 o in
    let y = received_at (view c.args.worker.now) c.args.connection in (
      c.turn-3.ensures.0 ∙ c.turn-2.ensures.0 ∙ c.take_out-packet.ensures.table ∙ c.turn.ensures.0 ∙ c.count_up-place.ensures.table ∙ c.load-word.ensures.0 ∙ q.table,
      omega (arith, f.words, place, c.requires.range),
      apart g.K.Component.rules f.table.shared.key.value f.table.shared.table_id.slots s.id s.me (f.layout.processes + c.args.connection) c.level_word-word_at.result (λ n. n) (λ i. emptied (step f.table.shared.table_id.slots i 0 0 none) s.me) (omega (arith, place))
          (empties g.K.Component.rules g.met.K.Component.lawful f.table.shared.key.value f.table.shared.table_id.slots _ s.id c.args.held.now.process c.args.connection o.takes s.me q.base (record y { drawn = y.drawn ++ o.packet ∷ []; out = Some o.takes }) _ (omega (arith, f.channels, c.requires.range))
          (ap (λ (v : View _). v.held) k.view_is ∙ q.held) (ap (λ (v : View _). v.receiving) k.view_is) (draw-here c.args.connection (view c.args.worker.now).receiving c.requires.may) refl (omega (arith, length-append y.drawn (o.packet ∷ [])))
          (k.slots_are ∙ (λ j. (takes_slot (sym f.bodies j) (length (capacities_of f.table.shared.key.value)) c.args.connection, slot.Count (o.takes + 1)) ∷ (place_slot (sym f.bodies j) (capacities_of f.table.shared.key.value) c.args.connection o.takes, slot.Cell None) ∷ (c.args.held.now.process, slot.Vacant) ∷ []))),
    )

pub returns-clause-seated : goal.returns-clause-seated
returns-clause-seated g c = let f = c.args.self.now in
    let all = goal.at.returns-clause-seated g c in
    let o = out-of g all.After-cell-cell (told-of g all.After-load-word) in
    let k = back-of g all.After-turn-3 o in
    let e = c.load.ensures in
    seated-with f.table.shared.table_id f.layout.processes c.args.worker.now (record { seat = c.load.new.seat; woken = c.args.worker.now.woken }) c.args.held.now (emptying (drawing (view c.args.worker.now) c.args.connection o.takes o.packet)) c.requires.seated
    (e.0 ∙ c.turn-3.ensures.0 ∙ c.turn-2.ensures.0 ∙ c.take_out-packet.ensures.table ∙ c.turn.ensures.0 ∙ c.count_up-place.ensures.table ∙ c.load-word.ensures.0)
    (ap (λ m. m.0) e.2 ∙ ap emptying k.view_is) (ap (λ m. m.1) e.2 ∙ ap (λ xs. rest (rest xs)) k.slots_are) refl refl refl

pub returns-clause-drawn : goal.returns-clause-drawn
returns-clause-drawn g c = let f = c.args.self.now in
    let all = goal.at.returns-clause-drawn g c in
    let o = out-of g all.After-cell-cell (told-of g all.After-load-word) in
    let k = back-of g all.After-turn-3 o in
    let v = view c.args.worker.now in (
      subst (λ (m : ℕ). WouldAlwaysBeThere g.K.Component.rules f.layout.processes m v c.args.connection c.take_out-packet.result) f.channels (subst (WouldAlwaysBeThere g.K.Component.rules f.layout.processes (length (capacities_of f.table.shared.key.value)) v c.args.connection) k.packet_is o.would),
      ap (λ m. m.0) c.load.ensures.2 ∙ ap emptying (k.view_is ∙ (λ j. drawing v c.args.connection (o.takes_is j) (k.packet_is j))),
    )
