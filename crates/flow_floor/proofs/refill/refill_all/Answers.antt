use Rattle.std.proofs.Common.{◌≡◌, ℕ, List, Some, length, slice_get, arith, refl, sym, ap, ◌∙◌, subst, map, set, length-set, inl, inr}
use Rattle.std.proofs.lemmas.List.{length-map}
use Rattle.std.proofs.lemmas.Option.{slice_get-get_or}
use Rattle.std.specs.Mem.Slots.{slots_items, slots_filled}
use Rattle.flow_model.specs.Stands.{ChannelShown}
use Rattle.flow_model.proofs.Lists.{same_or_not, slice_get-set_same, slice_get-set_other}
use Rattle.flow_ring.specs.Spaced.{ranked}
use Rattle.flow_floor.specs.Shut.{AreLeft}
use Rattle.flow_floor.proofs.Refilling.{empty-there, none-left, rests-same}
use Rattle.flow_floor.proofs.refill.refill_all.Goals as goal
use Rattle.flow_floor.proofs.refill.refill_all.Goals.{After-index_mut}

-- There are as many channels as connections.
many-of : (capacities : List ℕ) (channels : List ChannelShown) (n : ℕ) → length capacities ≡ n → map (λ (k : ChannelShown). k.capacity) channels ≡ capacities → length channels ≡ n
many-of capacities channels n count sizes = omega (arith, count, ap (λ (ns : List ℕ). length ns) sizes, length-map channels (λ (k : ChannelShown). k.capacity))

-- The channel at hand stands there.
there-of : (g : _) (c : After-index_mut g) → slice_get c.loop-connection.channels.items c.loop-connection.connection ≡ Some c.index_mut.result.now
there-of g c = let i = c.loop-connection.invariant in
    slice_get-get_or c.loop-connection.channels.items c.loop-connection.connection c.index_mut.result.now (omega (arith, i.count, c.loop-connection-test.true, c.len-connection-end.ensures)) ∙ ap (λ (k : ChannelShown). Some k) (sym c.index_mut.ensures.value)

pub refill-requires-clause-rests : goal.refill-requires-clause-rests
refill-requires-clause-rests g c =
    let l = c.args.layout.now in
    let i = c.loop-connection.invariant in
    let many = many-of l.capacities.items c.args.channels.items l.connections l.counted c.requires.empty.sizes in
    let k = c.requires.rest c.loop-connection.connection (omega (arith, many, l.counted, c.loop-connection-test.true, c.len-connection-end.ensures)) in
    (k.0, rests-same l.processes l.capacities.items _ _ _ _ c.loop-connection.connection c.loop-connection.connection k.0 (ap (λ w. ranked (slots_items w)) (sym i.words)) (sym i.same) refl k.1)

pub refill-requires-clause-empty : goal.refill-requires-clause-empty
refill-requires-clause-empty g c =
    empty-there c.args.layout.now.capacities.items c.args.channels.items c.requires.empty c.loop-connection.connection c.index_mut.result.now
    (sym (c.loop-connection.invariant.behind c.loop-connection.connection (omega arith)) ∙ there-of g (goal.at.refill-requires-clause-empty g c).After-index_mut)

pub loop-connection-preserved : goal.loop-connection-preserved
loop-connection-preserved g c =
    let l = c.args.layout.now in
    let i = c.loop-connection.invariant in
    let e = c.refill.ensures in
    let at = c.loop-connection.connection in
    let channels = c.loop-connection.channels.items in
    let new = c.refill.new.channel in
    let there = there-of g (goal.at.loop-connection-preserved g c).After-index_mut in
    record {
      same = e.same.0 ∙ i.same;
      long = e.same.1 ∙ i.long;
      words = e.same.2 ∙ i.words;
      count = length-set channels at new ∙ i.count;
      left = e.left;
      below = λ d k low rests. elim (same_or_not d at) [
        | inl here ↦ (let is : new ≡ k = e.channel k (rests-same l.processes l.capacities.items _ _ _ _ d at k (ap (λ w. ranked (slots_items w)) (sym i.words)) (sym i.same) here rests) in
            ap (slice_get (set channels at new)) here ∙ slice_get-set_same channels at c.index_mut.result.now new there ∙ ap (λ (x : ChannelShown). Some x) is)
        | inr other ↦ slice_get-set_other channels at d new other ∙ i.below d k (omega (arith, low, other)) rests
      ];
      behind = λ d high. slice_get-set_other channels at d new (λ e. omega (arith, e, high)) ∙ i.behind d (omega (arith, high));
    }

pub returns-clause-none : goal.returns-clause-none
returns-clause-none g c = λ k low. (
    let l = c.args.layout.now in
    let i = c.loop-connection.invariant in
    let many = many-of l.capacities.items c.args.channels.items l.connections l.counted c.requires.empty.sizes in
    let end : c.loop-connection.connection ≡ length l.capacities.items = omega (arith, many, l.counted, c.loop-connection-test.false, c.loop-connection.auto.connection-end, c.len-connection-end.ensures) in
    none-left l.processes l.capacities.items (slots_filled c.loop-connection.closed.slots) (subst (λ (m : ℕ). AreLeft l.processes l.capacities.items m (slots_filled c.loop-connection.closed.slots)) end i.left) k (omega (arith, low, i.long, c.requires.deep)))
