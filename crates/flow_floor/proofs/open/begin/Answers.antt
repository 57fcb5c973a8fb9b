use Rattle.std.proofs.Common.{rules, arith, ◌≡◌, ◌∙◌, List, ap, length, map, subst, sym}
use Rattle.std.proofs.lemmas.Grind.{merely}
use Rattle.std.proofs.lemmas.List.{length-map}
use Rattle.flow_limits.specs.declared.TheConstants.{WORKER_LIMIT}
use Rattle.atomic_table.specs.Table.{opening}
use Rattle.flow_model.specs.Stands.{ChannelShown}
use Rattle.flow_model.specs.Wires.{wires}
use Rattle.flow_machine.specs.Values.{BodyValue, NetValue, net_with}
use Rattle.flow_machine.specs.Joins.{IsPlanned, Joins}
use Rattle.flow_floor.proofs.Shutting.{whole-net}
use Rattle.flow_ring.specs.Spaced.{ranked}
use Rattle.flow_ring.specs.Places.{slot_count, word_count}
use Rattle.flow_floor.specs.Rule.{TableLaw}
use Rattle.flow_floor.specs.Seats.{newcomer}
use Rattle.flow_floor.specs.Ends.{capacities_of}
use Rattle.flow_floor.specs.Opening.{emptied, AreSound, FirstSlots, FirstWords}
use Rattle.flow_floor.proofs.Begins.{opens}
use Rattle.flow_floor.proofs.Starting.{begins, slots-of}
use Rattle.flow_floor.proofs.open.begin.Goals as goal
use Rattle.flow_floor.proofs.open.begin.Goals.{After-split-plan, After-first_slots-slots}

-- The net's connections are a plan's.
planned : (g : _) (c : After-split-plan g) → IsPlanned c.args.net
planned g c = let s = c.split-plan.ensures in let p = c.split-plan.result in
    subst (λ (n : NetValue _). IsPlanned n) (let parts : net_with p.connections.items p.bodies.items p.channels.items ≡ c.args.net = (λ i. net_with (s.connections i) (s.bodies i) (s.channels i)) in parts) s.joins.planned

-- The slots are laid with the net's bodies and connections.
laid : (g : _) (c : After-first_slots-slots g) → FirstSlots c.args.net c.first_slots-slots.result.0.items
laid g c = let s = c.split-plan.ensures in let p = c.split-plan.result in slots-of c.args.net c.in-Ok.both.0.items p.channels.items c.first_slots-slots.result.0.items (c.in-Ok.ensures.racked ∙ s.bodies) s.channels c.first_slots-slots.ensures.slots

pub first_slots-slots-requires : goal.first_slots-slots-requires
first_slots-slots-requires g c = let s = c.split-plan.ensures in record {
  processes = c.requires.layout.0 ∙ ap (λ (bs : List (BodyValue _)). length bs) (sym (c.in-Ok.ensures.racked ∙ s.bodies));
  capacities = c.requires.layout.1 ∙ ap (λ (ks : List ChannelShown). map (λ (k : ChannelShown). k.capacity) ks) (sym s.channels);
  sound = subst AreSound (sym s.channels) c.requires.sound;
  room = c.requires.slots;
}

pub new-requires : goal.new-requires
new-requires g c = let net = c.args.net in let rules = g.K.Component.rules in let all = goal.at.new-requires g c in let xs = c.first_slots-slots.result.0.items in let ws = c.as_slice.result.now in
    subst (λ (n : NetValue _). TableLaw rules n (opening ws xs (newcomer WORKER_LIMIT))) (sym c.of-about.ensures)
    (opens rules net (ranked ws) xs c.split-plan.ensures.fit (planned g all.After-split-plan)
    (begins rules net ws xs (subst (FirstWords net) (sym c.as_slice.ensures.value) c.requires.words) c.requires.sound (laid g all.After-first_slots-slots)))

pub invariant_of-floor-clause-bodies : goal.invariant_of-floor-clause-bodies
invariant_of-floor-clause-bodies g c = let key : c.in-Ok-new.table.shared.key.value ≡ c.args.net = search rules in
    ap (λ n. length n.bodies) key ∙ sym c.requires.layout.0

pub invariant_of-floor-clause-channels : goal.invariant_of-floor-clause-channels
invariant_of-floor-clause-channels g c = let key : c.in-Ok-new.table.shared.key.value ≡ c.args.net = search rules in
    ap (λ n. length (capacities_of n)) key ∙ ap (λ (zs : List _). length zs) (sym c.requires.layout.1) ∙ c.args.laid.layout.counted

pub invariant_of-floor-clause-capacities : goal.invariant_of-floor-clause-capacities
invariant_of-floor-clause-capacities g c = let key : c.in-Ok-new.table.shared.key.value ≡ c.args.net = search rules in
    c.requires.layout.1 ∙ ap (λ n. capacities_of n) (sym key)

pub invariant_of-floor-clause-slots : goal.invariant_of-floor-clause-slots
invariant_of-floor-clause-slots g c = let key : c.in-Ok-new.table.shared.key.value ≡ c.args.net = search rules in
    let count : c.in-Ok-new.table.shared.table_id.slots ≡ length c.first_slots-slots.result.0.items = search rules in
    count ∙ (laid g (goal.at.invariant_of-floor-clause-slots g c).After-first_slots-slots).deep ∙ (λ j. slot_count (sym c.requires.layout.0 j) (capacities_of (sym key j)))

pub invariant_of-floor-clause-words : goal.invariant_of-floor-clause-words
invariant_of-floor-clause-words g c = let count : c.in-Ok-new.table.shared.table_id.words ≡ length c.as_slice.result.now = search rules in
    let sizes : length (capacities_of c.args.net) ≡ c.args.laid.layout.connections = ap (λ (zs : List _). length zs) (sym c.requires.layout.1) ∙ c.args.laid.layout.counted in
    count ∙ ap (λ (ws : List _). length ws) c.as_slice.ensures.value ∙ c.requires.words.wide ∙ (λ j. word_count (sym c.requires.layout.0 j) (sizes j))

pub invariant_of-floor-clause-small : goal.invariant_of-floor-clause-small
invariant_of-floor-clause-small g c = let few = (planned g (goal.at.invariant_of-floor-clause-small g c).After-split-plan).few_processes in (
  omega (arith, few, c.requires.layout.0, length-map c.args.net.bodies (λ (b : BodyValue _). wires b.process)),
  omega (arith, c.requires.few, ap (λ (zs : List _). length zs) c.requires.layout.1, c.args.laid.layout.counted, length-map c.args.net.channels (λ (k : ChannelShown). k.capacity)),
)

pub invariant_of-floor-clause-planned : goal.invariant_of-floor-clause-planned
invariant_of-floor-clause-planned g c = let key : c.in-Ok-new.table.shared.key.value ≡ c.args.net = search rules in
    c.split-plan.ensures.connections ∙ ap (λ n. n.connections) (sym key)

pub invariant_of-floor-clause-wired : goal.invariant_of-floor-clause-wired
invariant_of-floor-clause-wired g c = let key : c.in-Ok-new.table.shared.key.value ≡ c.args.net = search rules in
    merely (subst (λ (n : NetValue _). IsPlanned n) (sym key) (planned g (goal.at.invariant_of-floor-clause-wired g c).After-split-plan))

pub join_again-net-requires : goal.join_again-net-requires
join_again-net-requires g c = let all = goal.at.join_again-net-requires g c in let s = c.split-plan.ensures in let parts = c.split-plan.result in let about = c.of-about.ensures in let net = c.args.net in
    record {
      processes = c.requires.layout.0 ∙ ap (λ n. length n.bodies) (sym about);
      capacities = c.requires.layout.1 ∙ ap (λ n. capacities_of n) (sym about);
      sound = subst (λ (n : NetValue _). AreSound n.channels) (sym about) c.requires.sound;
      slots = subst (λ (n : NetValue _). FirstSlots n c.in-Err-new.refused.slots.items) (sym about) (subst (λ (zs : List _). FirstSlots net zs) (sym c.in-Err-new.ensures.err) (laid g all.After-first_slots-slots));
      plan = s.connections ∙ ap (λ n. n.connections) (sym about);
      rooms = record {
        bodies = (c.in-Ok.ensures.room.0, omega (arith, c.requires.bodies.1, c.in-Ok.ensures.room.1, c.requires.layout.0));
        channels = c.first_slots-slots.ensures.emptied ∙ ap (λ (ks : List ChannelShown). map emptied ks) (s.channels ∙ ap (λ n. n.channels) (sym about));
        starved = (c.requires.starved.0, omega (arith, c.requires.starved.1, c.requires.layout.0));
      };
      joins = subst (Joins g.K.Component.rules) (whole-net net parts.connections.items parts.bodies.items parts.channels.items s.connections s.bodies s.channels ∙ sym about) s.joins;
    }
