use Rattle.std.proofs.Common.{◌≡◌, length, map, take, vec_capacity}
use Rattle.flow_model.specs.Stands.{ChannelShown}
use Rattle.flow_floor.proofs.open.capacities.Given as goal

-- so many are listed
abbrev pub invariant-loop-connection : goal.invariant-loop-connection
invariant-loop-connection g l = record {
  items : l.capacities.items ≡ map (λ (k : ChannelShown). k.capacity) (take l.connection l.net.channels);
  room : vec_capacity l.capacities ≡ length l.net.channels;
}
