use Rattle.std.proofs.Common.{◌∙◌, sym, arith, length, subst}
use Rattle.flow_machine.specs.Joins.{Joins}
use Rattle.flow_floor.proofs.Shutting.{whole-net}
use Rattle.flow_ring.specs.Places.{slot_count}
use Rattle.flow_floor.specs.Ends.{capacities_of}
use Rattle.flow_floor.proofs.Filling.{laid-again}
use Rattle.flow_floor.proofs.back.join_again.Goals as goal

-- As many slots as the layout has.
pub take_back_bodies-bodies-requires : goal.take_back_bodies-bodies-requires
take_back_bodies-bodies-requires g c = let s = c.requires.slots in record {
  count = c.requires.processes;
  there = s.bodies;
  range = omega (arith, s.deep, c.requires.processes);
  room = c.requires.rooms.bodies;
}

pub take_back_all-channels-requires : goal.take_back_all-channels-requires
take_back_all-channels-requires g c = let s = c.requires.slots in let l = c.args.layout.now in let e = c.take_back_bodies-bodies.ensures in let net = c.args.about.now.value in record {
  capacities = c.requires.capacities;
  sound = c.requires.sound;
  deep = e.deep ∙ s.deep ∙ sym (λ j. slot_count (c.requires.processes j) (c.requires.capacities j));
  emptied = c.requires.rooms.channels;
  laid = laid-again l.processes (length net.bodies) l.capacities.items (capacities_of net) net.channels c.args.slots.items c.take_back_bodies-bodies.new.slots.items c.requires.processes c.requires.capacities e.others s.connections;
}

pub join-requires : goal.join-requires
join-requires g c = let net = c.args.about.now.value in
    subst (Joins g.K.Component.rules) (sym (whole-net net c.args.plan.items c.take_back_bodies-bodies.result.items c.take_back_all-channels.result.items c.requires.plan c.take_back_bodies-bodies.ensures.bodies c.take_back_all-channels.ensures)) c.requires.joins

pub returns : goal.returns
returns g c = c.join.ensures ∙ whole-net c.args.about.now.value c.args.plan.items c.take_back_bodies-bodies.result.items c.take_back_all-channels.result.items c.requires.plan c.take_back_bodies-bodies.ensures.bodies c.take_back_all-channels.ensures
