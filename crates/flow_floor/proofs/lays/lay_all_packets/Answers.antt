use Rattle.std.proofs.Common.{◌≡◌, ◌+◌, ◌<◌, ◌∙◌, ◌++◌, suc, Some, ap, refl, sym, arith, get_or, length, map, set, slice_get, subst, take, drop}
use Rattle.std.proofs.lemmas.List.{length-map}
use Rattle.std.proofs.lemmas.Option.{slice_get-get_or}
use Rattle.flow_model.specs.Stands.{ChannelShown}
use Rattle.flow_floor.specs.Opening.{emptied}
use Rattle.flow_floor.specs.Laying.{AreLaid}
use Rattle.flow_floor.proofs.Filling.{bodies-kept, laid-next, part-all, part-at, part-long, part-more}
use Rattle.flow_floor.proofs.Starting.{size-at}
use Rattle.flow_floor.proofs.lays.lay_all_packets.Goals as goal
use Rattle.flow_floor.proofs.lays.lay_all_packets.Goals.{After-index_mut, After-loop-connection, In-loop-connection}

-- There are as many connections as channels.
count-of : (g : _) (c : In-loop-connection g) → length c.args.channels.items ≡ c.args.layout.now.connections
count-of g c = omega (arith, c.args.layout.now.counted, ap (λ zs. length zs) c.requires.capacities, length-map c.args.channels.items (λ (k : ChannelShown). k.capacity))

low-of : (g : _) (c : In-loop-connection g) → c.loop-connection.connection < length c.loop-connection.channels.items
low-of g c = omega (arith, count-of g c, c.loop-connection-test.true, ap (λ zs. length zs) c.loop-connection.invariant.channels, part-long emptied c.args.channels.items c.loop-connection.connection)

-- The channel at hand is still what it was.
there-of : (g : _) (c : After-index_mut g) → c.loop-connection.connection < length c.loop-connection.channels.items → slice_get c.args.channels.items c.loop-connection.connection ≡ Some c.index_mut.result.now
there-of g c low = let d = c.loop-connection.connection in let k = c.index_mut.result.now in
    sym (part-at emptied c.args.channels.items d) ∙ ap (λ zs. slice_get zs d) (sym c.loop-connection.invariant.channels) ∙ slice_get-get_or c.loop-connection.channels.items d k low ∙ ap (λ (x : ChannelShown). Some x) (sym c.index_mut.ensures.value)

pub loop-connection-init : goal.loop-connection-init
loop-connection-init g c = record { channels = refl; laid = c.requires.empty; bodies = λ x low. refl; deep = refl }

pub index_mut-requires : goal.index_mut-requires
index_mut-requires g c = omega (arith, low-of g (goal.at.index_mut-requires g c).In-loop-connection, c.loop-connection.channels.ok.0)

pub lay_packets-requires : goal.lay_packets-requires
lay_packets-requires g c = let all = goal.at.lay_packets-requires g c in let d = c.loop-connection.connection in let k = c.index_mut.result.now in let there = there-of g all.After-index_mut (low-of g all.In-loop-connection) in
    let is = c.requires.sound d k there in
    record {
      range = c.loop-connection-test.true;
      size = size-at c.args.channels.items d k there ∙ ap (λ zs. get_or zs d 0) (sym c.requires.capacities);
      level = is.level;
      numbers = is.numbers;
      deep = c.loop-connection.invariant.deep ∙ c.requires.deep;
      empty = ((c.loop-connection.invariant.laid d k there).1 (omega arith)).cells;
    }

pub loop-connection-preserved : goal.loop-connection-preserved
loop-connection-preserved g c =
    let l = c.args.layout.now in
    let all = goal.at.loop-connection-preserved g c in
    let d = c.loop-connection.connection in
    let k = c.index_mut.result.now in
    let there = there-of g all.After-index_mut (low-of g all.In-loop-connection) in
    let inv = c.loop-connection.invariant in
    let e = c.lay_packets.ensures in
    let more : suc d ≡ d + 1 = omega arith in
    record {
      channels = (λ j. set (inv.channels j) d (e.emptied j)) ∙ part-more emptied c.args.channels.items d k there ∙ ap (λ n. map emptied (take n c.args.channels.items) ++ drop n c.args.channels.items) more;
      laid = laid-next l.processes l.capacities.items c.args.channels.items c.loop-connection.slots.items c.lay_packets.new.slots.items d k (omega (arith, count-of g all.In-loop-connection, l.counted)) there e.others e.laid inv.laid;
      bodies = λ x low. bodies-kept l.processes l.capacities.items c.loop-connection.slots.items c.lay_packets.new.slots.items d e.others x low ∙ inv.bodies x low;
      deep = e.deep ∙ inv.deep;
    }

-- All connections were gone through.
end-of : (g : _) (c : After-loop-connection g) → c.loop-connection.connection ≡ c.args.layout.now.connections
end-of g c = omega (arith, c.loop-connection-test.false, c.loop-connection.auto)

pub returns-clause-emptied : goal.returns-clause-emptied
returns-clause-emptied g c = let end = end-of g (goal.at.returns-clause-emptied g c).After-loop-connection in
    c.loop-connection.invariant.channels ∙ part-all emptied c.args.channels.items c.loop-connection.connection (omega (arith, end, c.args.layout.now.counted, ap (λ zs. length zs) c.requires.capacities, length-map c.args.channels.items (λ (k : ChannelShown). k.capacity)))

pub returns-clause-laid : goal.returns-clause-laid
returns-clause-laid g c = let l = c.args.layout.now in
    subst (λ n. AreLaid l.processes l.capacities.items c.args.channels.items n c.loop-connection.slots.items) (end-of g (goal.at.returns-clause-laid g c).After-loop-connection) c.loop-connection.invariant.laid
