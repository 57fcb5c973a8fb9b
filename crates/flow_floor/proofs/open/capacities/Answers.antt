use Rattle.std.proofs.Common.{◌≡◌, ◌∙◌, ◌++◌, ◌∷◌, [], ap, arith, length, map, take}
use Rattle.std.proofs.lemmas.List.{length-map}
use Rattle.flow_model.specs.Stands.{ChannelShown}
use Rattle.flow_floor.proofs.Filling.{put-more, take-all, take-few}
use Rattle.flow_floor.proofs.open.capacities.Goals as goal

pub push_reserved-requires : goal.push_reserved-requires
push_reserved-requires g c = let i = c.loop-connection.invariant in
    omega (arith, ap (λ zs. length zs) i.items, i.room, length-map (take c.loop-connection.connection c.args.net.now.channels) (λ (k : ChannelShown). k.capacity), take-few c.args.net.now.channels c.loop-connection.connection, c.loop-connection-test.true, c.connections-connection-end.ensures, c.loop-connection.capacities.ok.0)

pub loop-connection-preserved : goal.loop-connection-preserved
loop-connection-preserved g c = let i = c.loop-connection.invariant in record {
  items = put-more (λ (k : ChannelShown). k.capacity) c.args.net.now.channels c.loop-connection.connection c.channel-channel.result.now [] c.loop-connection.capacities.items c.push_reserved.new.self.items c.channel-channel.ensures i.items
      (c.push_reserved.ensures.items ∙ ap (λ n. c.loop-connection.capacities.items ++ n ∷ []) c.capacity.ensures);
  room = c.push_reserved.ensures.capacity ∙ i.room;
}

pub returns : goal.returns
returns g c = let ks = c.args.net.now.channels in let d = c.loop-connection.connection in
    c.loop-connection.invariant.items ∙ ap (λ zs. map (λ (k : ChannelShown). k.capacity) zs) (ap (λ n. take n ks) (let e : d ≡ length ks = omega (arith, c.loop-connection-test.false, c.loop-connection.auto, c.connections-connection-end.ensures) in e) ∙ take-all ks)
