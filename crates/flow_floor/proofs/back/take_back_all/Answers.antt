use Rattle.std.proofs.Common.{◌≡◌, ◌+◌, ◌<◌, ◌∙◌, ◌++◌, suc, Some, ap, refl, sym, arith, length, map, set, slice_get, take, drop}
use Rattle.std.proofs.lemmas.List.{length-map}
use Rattle.std.proofs.lemmas.Option.{slice_get-get_or}
use Rattle.flow_model.specs.Stands.{ChannelShown}
use Rattle.flow_floor.proofs.Lists.{some_Some, get-within}
use Rattle.flow_floor.specs.Opening.{emptied}
use Rattle.flow_floor.proofs.Filling.{packets-kept, rest-all, rest-at, rest-long, rest-more}
use Rattle.flow_floor.proofs.back.take_back_all.Goals as goal
use Rattle.flow_floor.proofs.back.take_back_all.Goals.{After-index_mut, In-loop-connection}

-- There are as many connections as channels.
count-of : (g : _) (c : In-loop-connection g) → length c.args.about.now.value.channels ≡ c.args.layout.now.connections
count-of g c = omega (arith, c.args.layout.now.counted, ap (λ zs. length zs) c.requires.capacities, length-map c.args.about.now.value.channels (λ (k : ChannelShown). k.capacity))

low-of : (g : _) (c : In-loop-connection g) → c.loop-connection.connection < length c.loop-connection.channels.items
low-of g c = omega (arith, count-of g c, c.loop-connection-test.true, ap (λ zs. length zs) c.loop-connection.invariant.channels, rest-long emptied c.args.about.now.value.channels c.loop-connection.connection)

-- The channel at hand is still without its packets.
now-of : (g : _) (c : After-index_mut g) → c.loop-connection.connection < length c.loop-connection.channels.items → (k : ChannelShown) → slice_get c.args.about.now.value.channels c.loop-connection.connection ≡ Some k → c.index_mut.result.now ≡ emptied k
now-of g c low k there = let d = c.loop-connection.connection in let x = c.index_mut.result.now in
    some_Some x (emptied k) (sym (slice_get-get_or c.loop-connection.channels.items d x low ∙ ap (λ (y : ChannelShown). Some y) (sym c.index_mut.ensures.value)) ∙ ap (λ zs. slice_get zs d) c.loop-connection.invariant.channels ∙ rest-at emptied c.args.about.now.value.channels d k there)

pub loop-connection-init : goal.loop-connection-init
loop-connection-init g c = record { channels = c.requires.emptied; laid = c.requires.laid; deep = refl }

pub index_mut-requires : goal.index_mut-requires
index_mut-requires g c = omega (arith, low-of g (goal.at.index_mut-requires g c).In-loop-connection, c.loop-connection.channels.ok.0)

pub take_back-requires : goal.take_back-requires
take_back-requires g c = let all = goal.at.take_back-requires g c in record {
  range = c.loop-connection-test.true;
  capacities = c.requires.capacities;
  sound = c.requires.sound;
  deep = c.loop-connection.invariant.deep ∙ c.requires.deep;
  emptied = now-of g all.After-index_mut (low-of g all.In-loop-connection);
  laid = λ k there. c.loop-connection.invariant.laid c.loop-connection.connection k there (omega arith);
}

pub loop-connection-preserved : goal.loop-connection-preserved
loop-connection-preserved g c =
    let l = c.args.layout.now in
    let all = goal.at.loop-connection-preserved g c in
    let d = c.loop-connection.connection in
    let ks = c.args.about.now.value.channels in
    let inv = c.loop-connection.invariant in
    let e = c.take_back.ensures in
    let count = count-of g all.In-loop-connection in
    let more : suc d ≡ d + 1 = omega arith in
    record {
      channels = (λ j. set (inv.channels j) d c.take_back.new.channel) ∙ rest-more emptied ks d c.take_back.new.channel e.channel ∙ ap (λ n. take n ks ++ map emptied (drop n ks)) more;
      laid = λ x k at high. packets-kept l.processes l.capacities.items c.loop-connection.slots.items c.take_back.new.slots.items d x k k.packets (omega (arith, c.loop-connection-test.true, l.counted)) (omega (arith, get-within ks x k at, count, l.counted)) (λ same. omega (arith, same, high)) e.others
          (inv.laid x k at (omega (arith, high)));
      deep = e.deep ∙ inv.deep;
    }

pub returns : goal.returns
returns g c = let ks = c.args.about.now.value.channels in
    c.loop-connection.invariant.channels ∙ rest-all emptied ks c.loop-connection.connection (omega (arith, c.loop-connection-test.false, c.args.layout.now.counted, ap (λ zs. length zs) c.requires.capacities, length-map ks (λ (k : ChannelShown). k.capacity)))
