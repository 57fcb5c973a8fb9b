use Rattle.std.proofs.Common.{◌≡◌, ◌+◌, ◌<◌, ◌++◌, false, get_or, set, slice_get, length, length-append, arith, refl, sym, ap, ◌∙◌, subst}
use Rattle.std.proofs.lemmas.List.{take_all}
use mathlib.Core.Option.{some-injective}
use lib.ListN.{get_elem?}
use Rattle.std.specs.Mem.Slots.{slots_filled, slots_counts}
use Rattle.flow_floor.specs.declared.board.Slot.TheVariants as slot
use Rattle.flow_ring.specs.Places.{place_slot}
use Rattle.flow_floor.specs.Shut.{packet_list}
use Rattle.flow_floor.proofs.Cells.{own-within, place-own}
use Rattle.flow_floor.proofs.Slots.{cell-is}
use Rattle.flow_floor.proofs.Refilling.{Taking, taking-none, taking-more, taking-all, take-more, list-few, kept-more}
use Rattle.flow_floor.proofs.refill.take_packets.Goals as goal
use Rattle.flow_floor.proofs.refill.take_packets.Goals.{After-cell-cell}

pub loop-i-init : goal.loop-i-init
loop-i-init g c = let l = c.args.layout.now in let k = c.args.channel.now in record {
  same = refl;
  long = refl;
  words = refl;
  taking = taking-none l.processes l.capacities.items c.args.connection k.takes (slots_filled c.args.closed.now.slots) c.requires.cells;
  few = omega (arith, ap (λ ps. length ps) c.requires.empty);
  kept = (let puts : k.puts ≡ k.takes + length k.packets = omega (arith, c.requires.few.0, ap (λ ps. length ps) c.requires.empty) in λ i. record k { puts = puts i });
  packets = λ ps holds. c.requires.empty;
}

-- It is the turn of one of the connection's cells, and this is the cell.
low-of : (g : _) (c : After-cell-cell g) → c.loop-i.i < get_or c.args.layout.now.capacities.items c.args.connection 0
low-of g c = omega (arith, c.loop-i-test.true, c.capacity-i-end.ensures, c.requires.size)

here-of : (g : _) (c : After-cell-cell g) → c.cell-cell.result ≡ place_slot c.args.layout.now.processes c.args.layout.now.capacities.items c.args.connection (c.args.channel.now.takes + c.loop-i.i)
here-of g c = subst (λ t. c.cell-cell.result ≡ place_slot c.args.layout.now.processes c.args.layout.now.capacities.items c.args.connection (t + c.loop-i.i)) c.takes-oldest.ensures c.cell-cell.ensures

pub take-slot-requires : goal.take-slot-requires
take-slot-requires g c =
    let at = (goal.at.take-slot-requires g c).After-cell-cell in
    let l = c.args.layout.now in
    let inv = c.loop-i.invariant in
    let oldest = c.args.channel.now.takes in
    let place = place_slot l.processes l.capacities.items c.args.connection (oldest + c.loop-i.i) in
    let low = low-of g at in
    let here = here-of g at in
    let within = own-within l.processes l.capacities.items c.args.connection place (omega (arith, c.requires.range, l.counted)) (place-own l.processes l.capacities.items c.args.connection (oldest + c.loop-i.i) (omega (arith, low))) in (
      omega (arith, here, within, inv.long, c.requires.deep),
      ap (λ x. get_or (slots_filled c.loop-i.closed.slots) x false) here ∙ inv.taking.left c.loop-i.i (omega arith) low,
    )

pub unreachable-requires : goal.unreachable-requires
unreachable-requires g c =
    let at = (goal.at.unreachable-requires g c).After-cell-cell in
    let h = c.requires.holds in
    let packet = slice_get h.0 c.loop-i.i in
    c.in_default.not-Cell packet (some-injective c.take-slot.result (slot.Cell packet) (sym c.take-slot.ensures.value ∙ (λ j. get_elem? (c.loop-i.invariant.same j) (here-of g at j)) ∙ h.1.0 c.loop-i.i (low-of g at)))

pub put_found-requires : goal.put_found-requires
put_found-requires g c =
    let low = low-of g (goal.at.put_found-requires g c).After-cell-cell in
    let inv = c.loop-i.invariant in
    let capacity = ap (λ k. k.capacity) inv.kept in
    let puts = ap (λ k. k.puts) inv.kept in
    record {
      room = omega (arith, low, capacity, inv.few, c.requires.size);
      counted = omega (arith, low, puts, inv.few, c.requires.few.1, c.loop-i-test.true);
    }

pub loop-i-preserved : goal.loop-i-preserved
loop-i-preserved g c =
    let at = (goal.at.loop-i-preserved g c).After-cell-cell in
    let l = c.args.layout.now in
    let inv = c.loop-i.invariant in
    let h = c.take-slot.ensures.others in
    let oldest = c.args.channel.now.takes in
    let i = c.loop-i.i in
    let place = place_slot l.processes l.capacities.items c.args.connection (oldest + i) in
    let low = low-of g at in
    let here = here-of g at in
    let filled = slots_filled c.loop-i.closed.slots in
    let within = own-within l.processes l.capacities.items c.args.connection place (omega (arith, c.requires.range, l.counted)) (place-own l.processes l.capacities.items c.args.connection (oldest + i) (omega (arith, low))) in
    let counts = (slots_counts c.loop-i.closed.slots).1 in
    let found = c.in-Cell.found in
    let old = c.loop-i.channel in
    let new = c.put_found.new.channel in
    record {
      same = h.0 ∙ inv.same;
      long = h.2 ∙ inv.long;
      words = h.3 ∙ inv.words;
      taking = subst (λ fs. Taking l.processes l.capacities.items c.args.connection oldest (i + 1) (slots_filled c.args.closed.now.slots) fs) (sym (h.1 ∙ ap (λ x. set filled x false) here))
          (taking-more l.processes l.capacities.items c.args.connection oldest i (slots_filled c.args.closed.now.slots) filled low (omega (arith, within, counts, inv.long, c.requires.deep)) inv.taking);
      few = omega (arith, ap (λ k. length k.packets) c.put_found.ensures, length-append old.packets (packet_list found), list-few found, inv.few);
      kept = kept-more c.args.channel.now old new found inv.kept c.put_found.ensures;
      packets = λ ps holds. (
          let is : found ≡ slice_get ps i = cell-is c.take-slot.result found (slice_get ps i) c.in-Cell.is (some-injective c.take-slot.result (slot.Cell (slice_get ps i)) (sym c.take-slot.ensures.value ∙ (λ j. get_elem? (inv.same j) (here j)) ∙ holds.0 i low)) in
          ap (λ k. k.packets) c.put_found.ensures ∙ (λ j. inv.packets ps holds j ++ packet_list (is j)) ∙ sym (take-more ps i));
    }

pub returns-clause-packets : goal.returns-clause-packets
returns-clause-packets g c = λ ps holds. (
    let inv = c.loop-i.invariant in
    let k = c.args.channel.now in
    let all : c.loop-i.channel.packets ≡ ps = inv.packets ps holds ∙ take_all c.loop-i.i ps (omega (arith, holds.1, c.loop-i-test.false, c.capacity-i-end.ensures, c.requires.size)) in
    inv.kept ∙ (λ j. record k { packets = all j; puts = k.takes + length (all j) }))

pub returns-clause-taken : goal.returns-clause-taken
returns-clause-taken g c = let l = c.args.layout.now in
    taking-all l.processes l.capacities.items c.args.connection c.args.channel.now.takes c.loop-i.i (slots_filled c.args.closed.now.slots) (slots_filled c.loop-i.closed.slots) (omega (arith, c.loop-i-test.false, c.capacity-i-end.ensures, c.requires.size)) c.loop-i.invariant.taking
