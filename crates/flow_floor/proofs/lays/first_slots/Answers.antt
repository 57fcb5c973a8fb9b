use Rattle.std.proofs.Common.{ℕ, ◌∙◌, List, ap, arith, length, subst}
use Rattle.std.proofs.lemmas.List.{length-map}
use Rattle.flow_model.specs.Stands.{ChannelShown}
use Rattle.flow_floor.proofs.Lists.{get-within}
use Rattle.flow_ring.specs.Places.{slot_count}
use Rattle.flow_floor.specs.Opening.{HasPackets}
use Rattle.flow_floor.specs.Laying.{AreLaid}
use Rattle.flow_floor.proofs.lays.first_slots.Goals as goal

pub put_all-slots-requires : goal.put_all-slots-requires
put_all-slots-requires g c = record {
  processes = c.requires.processes;
  connections = omega (arith, c.args.layout.now.counted, ap (λ zs. length zs) c.requires.capacities, length-map c.args.channels.items (λ (k : ChannelShown). k.capacity), ap (λ zs. length zs) c.as_slice.ensures.value);
  room = c.requires.room;
}

pub lay_all_packets-channels-requires : goal.lay_all_packets-channels-requires
lay_all_packets-channels-requires g c = let l = c.args.layout.now in record {
  capacities = c.requires.capacities;
  sound = c.requires.sound;
  deep = c.put_all-slots.ensures.deep;
  empty = subst (λ ks. AreLaid l.processes l.capacities.items ks 0 c.put_all-slots.result.items) c.as_slice.ensures.value c.put_all-slots.ensures.empty;
}

pub returns-clause-slots : goal.returns-clause-slots
returns-clause-slots g c = let l = c.args.layout.now in let e = c.lay_all_packets-channels.ensures in let xs = c.lay_all_packets-channels.new.slots.items in
    record {
      deep = e.deep ∙ c.put_all-slots.ensures.deep ∙ (λ j. slot_count (c.requires.processes j) (c.requires.capacities j));
      bodies = λ p b at. e.bodies p (omega (arith, get-within c.args.bodies.items p b at, c.requires.processes)) ∙ c.put_all-slots.ensures.bodies p b at;
      connections = λ d k at. subst (λ (z : ℕ × List ℕ). HasPackets z.0 z.1 xs d k k.packets) (λ j. (c.requires.processes j, c.requires.capacities j))
          ((e.laid d k at).0 (omega (arith, get-within c.args.channels.items d k at, l.counted, ap (λ zs. length zs) c.requires.capacities, length-map c.args.channels.items (λ (x : ChannelShown). x.capacity))));
    }
