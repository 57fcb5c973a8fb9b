use Rattle.std.proofs.Common.{◌≡◌, ℕ, ◌+◌, ◌-◌, ◌<◌, ◌≤◌, ◌∙◌, [], Some, None, ap, refl, sym, arith, get_or, length, length-set, set, slice_get, take}
use Rattle.std.proofs.lemmas.List.{length-map}
use Rattle.flow_model.specs.Stands.{ChannelShown}
use Rattle.flow_floor.proofs.Lists.{get-exists}
use Rattle.flow_floor.specs.declared.board.Slot.TheVariants as slot
use Rattle.flow_ring.specs.Places.{place_slot}
use Rattle.flow_floor.proofs.Cells.{own-within, place-own}
use Rattle.flow_floor.proofs.Slots.{cell-is}
use Rattle.flow_floor.proofs.Filling.{cells-left, found-in, put-next, same-next, take-all, take-few}
use Rattle.flow_floor.proofs.Starting.{size-at}
use Rattle.flow_floor.proofs.back.put_back.Goals as goal
use Rattle.flow_floor.proofs.back.put_back.Goals.{After-cell-at, After-index_mut, After-takes-first}

-- The channel that the connection was.
channel-of : (g : _) (c : After-takes-first g) → (k : ChannelShown) × (slice_get c.args.about.now.value.channels c.args.connection ≡ Some k)
channel-of g c = get-exists c.args.about.now.value.channels c.args.connection (omega (arith, c.requires.range, c.args.layout.now.counted, ap (λ zs. length zs) c.requires.capacities, length-map c.args.about.now.value.channels (λ (k : ChannelShown). k.capacity)))

first-of : (g : _) (c : After-takes-first g) (k : ChannelShown) → slice_get c.args.about.now.value.channels c.args.connection ≡ Some k → c.takes-first.result ≡ k.takes
first-of g c k at = c.takes-first.ensures ∙ ap (λ x. x.takes) (c.requires.empty k at)

-- The place is that of one of its packets, whose cell this is.
high-of : (g : _) (c : After-cell-at g) (k : ChannelShown) → slice_get c.args.about.now.value.channels c.args.connection ≡ Some k → k.takes ≤ c.loop-place.place
high-of g c k at = omega (arith, c.takes-first.ensures, ap (λ x. x.takes) (c.requires.empty k at), c.loop-place.auto)

short-of : (g : _) (c : After-cell-at g) (k : ChannelShown) → slice_get c.args.about.now.value.channels c.args.connection ≡ Some k → c.loop-place.place - k.takes < length k.packets
short-of g c k at = omega (arith, high-of g c k at, c.loop-place-test.true, c.requires.puts k at, (c.requires.sound c.args.connection k at).numbers)

below-of : (g : _) (c : After-cell-at g) (k : ChannelShown) → slice_get c.args.about.now.value.channels c.args.connection ≡ Some k → c.loop-place.place - k.takes < get_or c.args.layout.now.capacities.items c.args.connection 0
below-of g c k at = omega (arith, short-of g c k at, (c.requires.sound c.args.connection k at).level, size-at c.args.about.now.value.channels c.args.connection k at, ap (λ zs. get_or zs c.args.connection 0) c.requires.capacities)

-- This is in it.
found-of : (g : _) (c : After-index_mut g) (k : ChannelShown) → slice_get c.args.about.now.value.channels c.args.connection ≡ Some k → k.takes ≤ c.loop-place.place → c.loop-place.place - k.takes < get_or c.args.layout.now.capacities.items c.args.connection 0
    → c.index_mut.result.now ≡ slot.Cell (slice_get k.packets (c.loop-place.place - k.takes))
found-of g c k at high below = let l = c.args.layout.now in let place = c.loop-place.place in let i : ℕ = place - k.takes in
    let here : place ≡ k.takes + i = omega (arith, high) in
    found-in c.loop-place.slots.items c.cell-at.result (place_slot l.processes l.capacities.items c.args.connection (k.takes + i)) c.index_mut.result.now (slot.Cell (slice_get k.packets i))
    (c.cell-at.ensures ∙ ap (place_slot l.processes l.capacities.items c.args.connection) here) c.index_mut.ensures.value (c.loop-place.invariant.cells k at i (omega (arith, high)) below)

pub loop-place-init : goal.loop-place-init
loop-place-init g c = record {
  back = λ k at. (let first = first-of g c k at in
      let none : [] ≡ take (c.takes-first.result - k.takes) k.packets = sym (ap (λ n. take n k.packets) (let e : c.takes-first.result - k.takes ≡ 0 = omega (arith, first) in e)) in
      c.requires.empty k at ∙ (λ j. record k { packets = none j; puts = sym first j }));
  cells = λ k at j high low. c.requires.cells k at j low;
  others = λ x out. refl;
  deep = refl;
}

pub index_mut-requires : goal.index_mut-requires
index_mut-requires g c = let all = goal.at.index_mut-requires g c in let k = channel-of g all.After-takes-first in let l = c.args.layout.now in let place = c.loop-place.place in
    let within = own-within l.processes l.capacities.items c.args.connection (place_slot l.processes l.capacities.items c.args.connection place) (omega (arith, c.requires.range, l.counted)) (place-own l.processes l.capacities.items c.args.connection place (omega (arith, below-of g all.After-cell-at k.0 k.1))) in
    omega (arith, c.cell-at.ensures, within, c.loop-place.invariant.deep, c.requires.deep, c.loop-place.slots.ok.0)

pub unreachable-requires : goal.unreachable-requires
unreachable-requires g c = let all = goal.at.unreachable-requires g c in let at = all.After-cell-at in let k = channel-of g all.After-takes-first in
    c.in_default.not-Cell (slice_get k.0.packets (c.loop-place.place - k.0.takes)) (c.replace-cell.ensures.value ∙ found-of g all.After-index_mut k.0 k.1 (high-of g at k.0 k.1) (below-of g at k.0 k.1))

pub unreachable-requires-in_default-found : goal.unreachable-requires-in_default-found
unreachable-requires-in_default-found g c = let all = goal.at.unreachable-requires-in_default-found g c in let at = all.After-cell-at in let k = channel-of g all.After-takes-first in
    let i : ℕ = c.loop-place.place - k.0.takes in
    let packet = get-exists k.0.packets i (short-of g at k.0 k.1) in
    c.in_default-found.not-Some packet.0 (cell-is c.replace-cell.result c.in-Cell.found (slice_get k.0.packets i) c.in-Cell.is (c.replace-cell.ensures.value ∙ found-of g all.After-index_mut k.0 k.1 (high-of g at k.0 k.1) (below-of g at k.0 k.1)) ∙ packet.1)

pub put-requires : goal.put-requires
put-requires g c = let all = goal.at.put-requires g c in let k = channel-of g all.After-takes-first in
    let back = c.loop-place.invariant.back k.0 k.1 in
    let few = take-few k.0.packets (c.loop-place.place - k.0.takes) in
    record {
      room = omega (arith, ap (λ x. length x.packets) back, few, short-of g all.After-cell-at k.0 k.1, (c.requires.sound c.args.connection k.0 k.1).level, ap (λ x. x.capacity) back);
      counted = omega (arith, ap (λ x. x.puts) back, c.loop-place-test.true, c.ranges.puts);
    }

pub loop-place-preserved : goal.loop-place-preserved
loop-place-preserved g c =
    let l = c.args.layout.now in
    let all = goal.at.loop-place-preserved g c in
    let at = all.After-cell-at in
    let k0 = channel-of g all.After-takes-first in
    let inv = c.loop-place.invariant in
    let xs = c.loop-place.slots.items in
    let place = c.loop-place.place in
    let ys = set xs c.cell-at.result c.replace-cell.new.dest in
    let here : ys ≡ set xs (place_slot l.processes l.capacities.items c.args.connection place) (slot.Cell None) = (λ j. set xs (c.cell-at.ensures j) (c.replace-cell.ensures.after j)) in
    record {
      back = λ k there. put-next k c.loop-place.channel c.put.new.self place c.in-Some.packet (high-of g at k there)
          (sym (cell-is c.replace-cell.result c.in-Cell.found (slice_get k.packets (place - k.takes)) c.in-Cell.is (c.replace-cell.ensures.value ∙ found-of g all.After-index_mut k there (high-of g at k there) (below-of g at k there))) ∙ c.in-Some.is) (inv.back k there) c.put.ensures;
      cells = λ k there. cells-left l.processes l.capacities.items xs ys c.args.connection k.takes place k.packets (slot.Cell None) (high-of g at k there) (below-of g at k there) here (inv.cells k there);
      others = same-next l.processes l.capacities.items c.args.slots.now.items xs ys c.args.connection place (slot.Cell None) (omega (arith, below-of g at k0.0 k0.1)) here inv.others;
      deep = length-set xs c.cell-at.result c.replace-cell.new.dest ∙ inv.deep;
    }

pub returns-clause-channel : goal.returns-clause-channel
returns-clause-channel g c = let at = (goal.at.returns-clause-channel g c).After-takes-first in let k = channel-of g at in let place = c.loop-place.place in
    let numbers = (c.requires.sound c.args.connection k.0 k.1).numbers in
    let end : place ≡ k.0.puts = omega (arith, c.loop-place-test.false, c.loop-place.auto, first-of g at k.0 k.1, c.requires.puts k.0 k.1, numbers) in
    let all : take (place - k.0.takes) k.0.packets ≡ k.0.packets = ap (λ n. take n k.0.packets) (let e : place - k.0.takes ≡ length k.0.packets = omega (arith, end, numbers) in e) ∙ take-all k.0.packets in
    let same : c.loop-place.channel ≡ k.0 = c.loop-place.invariant.back k.0 k.1 ∙ (λ j. record k.0 { packets = all j; puts = end j }) in
    k.1 ∙ ap (λ (x : ChannelShown). Some x) (sym same)
