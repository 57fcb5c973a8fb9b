use Rattle.std.proofs.Common.{◌≡◌, ◌+◌, ◌<◌, List, Bool, false, length, get_or, set, get_or-set_other, inl, inr, arith, refl, sym, ap, ◌∙◌, subst}
use mathlib.Core.Option.{some-injective}
use lib.ListN.{get_elem?}
use Rattle.std.specs.Mem.Slots.{slots_items, slots_filled, slots_counts}
use Rattle.flow_ring.specs.Spaced.{ranked}
use Rattle.flow_ring.specs.Words.{senders_in}
use Rattle.flow_ring.proofs.Spaced.{ranked-at}
use Rattle.flow_floor.proofs.Lists.{word-at}
use Rattle.flow_floor.specs.declared.board.Slot.TheVariants as slot
use Rattle.flow_ring.specs.Places.{puts, takes, level_rank, puts_slot, takes_slot, place_slot}
use Rattle.flow_floor.specs.Shut.{HasItsCells, HoldsPackets, TakesCells}
use Rattle.flow_floor.proofs.Cells.{own-within}
use Rattle.flow_floor.proofs.Slots.{count-is}
use Rattle.flow_floor.proofs.Refilling.{cells-left, left-next, refilled}
use Rattle.flow_floor.proofs.refill.refill.Goals as goal
use Rattle.flow_floor.proofs.refill.refill.Goals.{After-take_number-takes}

pub take_number-puts-requires-clause-full : goal.take_number-puts-requires-clause-full
take_number-puts-requires-clause-full g c =
    ap (λ x. get_or (slots_filled c.args.closed.now.slots) x false) c.end_slots-puts_at.ensures.puts ∙ c.requires.left.full (puts c.args.connection) (omega (arith, c.requires.range, c.args.layout.now.counted)) (omega arith)

pub take_number-puts-requires-clause-there : goal.take_number-puts-requires-clause-there
take_number-puts-requires-clause-there g c = let k = c.requires.rests in
    (k.0.puts, ap (get_elem? (slots_items c.args.closed.now.slots)) c.end_slots-puts_at.ensures.puts ∙ k.1.lies.puts)

pub take_number-takes-requires-clause-full : goal.take_number-takes-requires-clause-full
take_number-takes-requires-clause-full g c = let l = c.args.layout.now in let at = c.end_slots-puts_at.ensures in
    let ts = takes_slot l.processes (length l.capacities.items) c.args.connection in
    (λ j. get_or (c.take_number-puts.ensures.taken j) (at.takes j) false)
    ∙ get_or-set_other (slots_filled c.args.closed.now.slots) c.end_slots-puts_at.result.0 ts false false (λ e. omega (arith, e, at.puts, c.requires.range, l.counted))
    ∙ c.requires.left.full (takes c.args.connection) (omega (arith, c.requires.range, l.counted)) (omega arith)

pub take_number-takes-requires-clause-there : goal.take_number-takes-requires-clause-there
take_number-takes-requires-clause-there g c = let k = c.requires.rests in
    (k.0.takes, (λ j. get_elem? (c.take_number-puts.ensures.same.0 j) (c.end_slots-puts_at.ensures.takes j)) ∙ k.1.lies.takes)

-- Which slots are full when both numbers were taken.
filled-of : (g : _) (c : After-take_number-takes g) → slots_filled c.take_number-takes.new.closed.slots ≡ set (set (slots_filled c.args.closed.now.slots) (puts_slot c.args.layout.now.processes c.args.connection) false) (takes_slot c.args.layout.now.processes (length c.args.layout.now.capacities.items) c.args.connection) false
filled-of g c = let at = c.end_slots-puts_at.ensures in
    c.take_number-takes.ensures.taken ∙ (λ j. set (c.take_number-puts.ensures.taken j) (at.takes j) false) ∙ (λ j. set (set (slots_filled c.args.closed.now.slots) (at.puts j) false) (takes_slot c.args.layout.now.processes (length c.args.layout.now.capacities.items) c.args.connection) false)

pub take_packets-requires-clause-cells : goal.take_packets-requires-clause-cells
take_packets-requires-clause-cells g c = let l = c.args.layout.now in
    subst (HasItsCells l.processes l.capacities.items c.args.connection) (sym (filled-of g (goal.at.take_packets-requires-clause-cells g c).After-take_number-takes))
    (cells-left l.processes l.capacities.items c.args.connection (slots_filled c.args.closed.now.slots) (omega (arith, c.requires.range, l.counted)) c.requires.left)

pub returns-clause-channel : goal.returns-clause-channel
returns-clause-channel g c = λ k rests. (
    let l = c.args.layout.now in
    let at = c.end_slots-puts_at.ensures in
    let words = slots_items c.args.closed.now.words in
    let same1 = c.take_number-puts.ensures.same in
    let same2 = c.take_number-takes.ensures.same in
    let number = c.take_number-takes.result in
    let word : get_or (ranked words) (level_rank l.processes c.args.connection) 0 ≡ c.word-word.result = ranked-at words (level_rank l.processes c.args.connection) ∙ ap (λ n. get_or words n 0) (sym c.level_word.ensures) ∙ word-at words c.level_word.result c.word-word.result c.word-word.ensures in
    let sends = c.senders.ensures.word ∙ ap senders_in (sym word) ∙ rests.senders in
    let took : number ≡ k.takes = count-is (slot.Count number) number k.takes refl (some-injective (slot.Count number) (slot.Count k.takes) (sym c.take_number-takes.ensures.number ∙ (λ j. get_elem? (same1.0 j) (at.takes j)) ∙ rests.lies.takes)) in
    let same = ap (λ x. x.takes) c.restart.ensures ∙ took in
    let holds : HoldsPackets l.processes l.capacities.items (slots_items c.take_number-takes.new.closed.slots) c.args.connection c.restart.new.self.takes k.packets =
    ((λ i low. (λ j. get_elem? ((same2.0 ∙ same1.0) j) (place_slot l.processes l.capacities.items c.args.connection (same j + i))) ∙ rests.lies.cells i low), omega (arith, rests.level, rests.size)) in
    refilled l.processes l.capacities.items (ranked words) (slots_items c.args.closed.now.slots) c.args.connection c.senders.result number c.args.channel.now c.restart.new.self c.take_packets.new.channel k
    rests c.requires.empty.1 sends took c.restart.ensures (c.take_packets.ensures.packets k.packets holds))

pub returns-clause-left : goal.returns-clause-left
returns-clause-left g c =
    let l = c.args.layout.now in
    let caps = l.capacities.items in
    let d = c.args.connection in
    let low : d < length caps = omega (arith, c.requires.range, l.counted) in
    let counts = (slots_counts c.args.closed.now.slots).1 in
    let ps = own-within l.processes caps d (puts_slot l.processes d) low (inl refl) in
    let ts = own-within l.processes caps d (takes_slot l.processes (length caps) d) low (inr (inl refl)) in
    left-next l.processes caps d (slots_filled c.args.closed.now.slots) (slots_filled c.take_packets.new.closed.slots) low (omega (arith, ps, counts, c.requires.deep)) (omega (arith, ts, counts, c.requires.deep)) c.requires.left
    (subst (λ (fs : List Bool). TakesCells l.processes caps d fs (slots_filled c.take_packets.new.closed.slots)) (filled-of g (goal.at.returns-clause-left g c).After-take_number-takes) c.take_packets.ensures.taken)
