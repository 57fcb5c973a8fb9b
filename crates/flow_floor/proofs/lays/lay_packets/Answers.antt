use Rattle.std.proofs.Common.{◌≡◌, ◌-◌, ◌<◌, ◌≤◌, ◌∙◌, [], Some, None, ap, refl, sym, arith, get_or, length, length-drop, length-set, set, slice_get, subst, take, drop}
use Rattle.flow_floor.specs.declared.board.Slot.TheVariants as slot
use Rattle.flow_ring.specs.Places.{place_slot}
use Rattle.flow_floor.specs.Opening.{HasCells, IsIn}
use Rattle.flow_floor.proofs.Cells.{own-within, place-own}
use Rattle.flow_floor.proofs.Slots.{cell-is}
use Rattle.flow_floor.proofs.Filling.{cells-next, drop-all, drop-none, empty-cell, found-in, get-dropped, same-next, take-all, taken-more}
use Rattle.flow_floor.proofs.lays.lay_packets.Goals as goal
use Rattle.flow_floor.proofs.lays.lay_packets.Goals.{After-cell-at, After-loop-place}

-- The place is that of a packet, whose cell this is.
high-of : (g : _) (c : After-cell-at g) → c.args.channel.now.takes ≤ c.loop-place.place
high-of g c = omega (arith, c.takes-first.ensures, c.loop-place.auto)

below-of : (g : _) (c : After-cell-at g) → c.loop-place.place - c.args.channel.now.takes < get_or c.args.layout.now.capacities.items c.args.connection 0
below-of g c = omega (arith, high-of g c, c.loop-place-test.true, c.puts-end.ensures, c.requires.numbers, c.requires.level, c.requires.size)

within-of : (g : _) (c : After-cell-at g) → c.cell-at.result < length c.loop-place.slots.items
within-of g c = let l = c.args.layout.now in let place = c.loop-place.place in
    let within = own-within l.processes l.capacities.items c.args.connection (place_slot l.processes l.capacities.items c.args.connection place) (omega (arith, c.requires.range, l.counted)) (place-own l.processes l.capacities.items c.args.connection place (omega (arith, below-of g c))) in
    omega (arith, c.cell-at.ensures, within, c.loop-place.invariant.deep, c.requires.deep)

-- It is empty.
empty-of : (g : _) (c : After-cell-at g) → IsIn c.loop-place.slots.items (place_slot c.args.layout.now.processes c.args.layout.now.capacities.items c.args.connection c.loop-place.place) (slot.Cell None)
empty-of g c = let l = c.args.layout.now in let k = c.args.channel.now in
    empty-cell l.processes l.capacities.items c.loop-place.slots.items c.args.connection k.takes c.loop-place.place k.packets (high-of g c) (below-of g c) c.loop-place.invariant.cells

-- All packets were taken.
end-of : (g : _) (c : After-loop-place g) → c.loop-place.place ≡ c.args.channel.now.puts
end-of g c = omega (arith, c.loop-place-test.false, c.loop-place.auto, c.takes-first.ensures, c.puts-end.ensures, c.requires.numbers)

pub loop-place-init : goal.loop-place-init
loop-place-init g c = let k = c.args.channel.now in let l = c.args.layout.now in let first = c.takes-first.result in
    let none : first - k.takes ≡ 0 = omega (arith, c.takes-first.ensures) in
    let left : k.packets ≡ drop (first - k.takes) k.packets = sym (ap (λ n. drop n k.packets) none ∙ drop-none k.packets) in
    record {
      left = λ j. record k { packets = left j; takes = sym c.takes-first.ensures j };
      cells = subst (λ zs. HasCells l.processes l.capacities.items c.args.slots.now.items c.args.connection k.takes zs) (sym (ap (λ n. take n k.packets) none)) c.requires.empty;
      others = λ x out. refl;
      deep = refl;
    }

pub take-packet-requires : goal.take-packet-requires
take-packet-requires g c = let k = c.args.channel.now in let at = (goal.at.take-packet-requires g c).After-cell-at in
    omega (arith, ap (λ x. length x.packets) c.loop-place.invariant.left, length-drop (c.loop-place.place - k.takes) k.packets, high-of g at, c.loop-place-test.true, c.puts-end.ensures, c.requires.numbers)

pub index_mut-requires : goal.index_mut-requires
index_mut-requires g c = omega (arith, within-of g (goal.at.index_mut-requires g c).After-cell-at, c.loop-place.slots.ok.0)

pub unreachable-requires : goal.unreachable-requires
unreachable-requires g c = let l = c.args.layout.now in let at = (goal.at.unreachable-requires g c).After-cell-at in
    c.in_default.not-Cell None (c.replace-cell.ensures.value ∙ found-in c.loop-place.slots.items c.cell-at.result (place_slot l.processes l.capacities.items c.args.connection c.loop-place.place) c.index_mut.result.now (slot.Cell None) c.cell-at.ensures c.index_mut.ensures.value (empty-of g at))

pub unreachable-requires-in_default-found : goal.unreachable-requires-in_default-found
unreachable-requires-in_default-found g c = let l = c.args.layout.now in let at = (goal.at.unreachable-requires-in_default-found g c).After-cell-at in
    let empty = found-in c.loop-place.slots.items c.cell-at.result (place_slot l.processes l.capacities.items c.args.connection c.loop-place.place) c.index_mut.result.now (slot.Cell None) c.cell-at.ensures c.index_mut.ensures.value (empty-of g at) in
    c.in_default-found.not-None (cell-is c.replace-cell.result c.in-Cell.found None c.in-Cell.is (c.replace-cell.ensures.value ∙ empty))

pub loop-place-preserved : goal.loop-place-preserved
loop-place-preserved g c =
    let l = c.args.layout.now in
    let k = c.args.channel.now in
    let at = (goal.at.loop-place-preserved g c).After-cell-at in
    let inv = c.loop-place.invariant in
    let xs = c.loop-place.slots.items in
    let place = c.loop-place.place in
    let ys = set xs c.cell-at.result c.replace-cell.new.dest in
    let packet = c.take-packet.result in
    let here : ys ≡ set xs (place_slot l.processes l.capacities.items c.args.connection place) (slot.Cell (Some packet)) = (λ j. set xs (c.cell-at.ensures j) (c.replace-cell.ensures.after j)) in
    let there : slice_get k.packets (place - k.takes) ≡ Some packet = get-dropped k.packets (place - k.takes) packet c.take-packet.new.self.packets (sym (ap (λ x. x.packets) inv.left) ∙ c.take-packet.ensures.oldest) in
    record {
      left = taken-more k c.loop-place.channel c.take-packet.new.self place (high-of g at) inv.left c.take-packet.ensures.rest;
      cells = cells-next l.processes l.capacities.items xs ys c.args.connection k.takes place k.packets packet (omega (arith, c.requires.range, l.counted)) (inv.deep ∙ c.requires.deep) (high-of g at) (below-of g at) there here inv.cells;
      others = same-next l.processes l.capacities.items c.args.slots.now.items xs ys c.args.connection place (slot.Cell (Some packet)) (omega (arith, below-of g at)) here inv.others;
      deep = length-set xs c.cell-at.result c.replace-cell.new.dest ∙ inv.deep;
    }

pub returns-clause-emptied : goal.returns-clause-emptied
returns-clause-emptied g c = let k = c.args.channel.now in let end = end-of g (goal.at.returns-clause-emptied g c).After-loop-place in let place = c.loop-place.place in
    let none : drop (place - k.takes) k.packets ≡ [] = ap (λ n. drop n k.packets) (let e : place - k.takes ≡ length k.packets = omega (arith, end, c.requires.numbers) in e) ∙ drop-all k.packets in
    c.loop-place.invariant.left ∙ (λ j. record k { packets = none j; takes = end j })

pub returns-clause-laid : goal.returns-clause-laid
returns-clause-laid g c = let k = c.args.channel.now in let l = c.args.layout.now in let end = end-of g (goal.at.returns-clause-laid g c).After-loop-place in let place = c.loop-place.place in
    let all : take (place - k.takes) k.packets ≡ k.packets = ap (λ n. take n k.packets) (let e : place - k.takes ≡ length k.packets = omega (arith, end, c.requires.numbers) in e) ∙ take-all k.packets in
    subst (λ zs. HasCells l.processes l.capacities.items c.loop-place.slots.items c.args.connection k.takes zs) all c.loop-place.invariant.cells
