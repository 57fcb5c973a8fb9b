use Rattle.std.proofs.Common.{◌≡◌, ◌∙◌, Some, ap, refl, sym, arith, length, slice_get}
use Rattle.std.proofs.lemmas.List.{length-map}
use mathlib.Core.Option.{some-injective}
use lib.ListN.{get_elem?}
use Rattle.flow_model.specs.Stands.{ChannelShown}
use Rattle.flow_floor.proofs.Lists.{get-exists}
use Rattle.flow_floor.specs.declared.board.Slot.TheVariants as slot
use Rattle.flow_floor.specs.Opening.{IsIn}
use Rattle.flow_floor.proofs.Slots.{count-is}
use Rattle.flow_floor.proofs.back.take_back.Goals as goal
use Rattle.flow_floor.proofs.back.take_back.Goals.{After-end_slots-place, After-number_in-takes}

-- The channel that the connection was.
channel-of : (g : _) (c : After-end_slots-place g) → (k : ChannelShown) × (slice_get c.args.about.now.value.channels c.args.connection ≡ Some k)
channel-of g c = get-exists c.args.about.now.value.channels c.args.connection (omega (arith, c.requires.range, c.args.layout.now.counted, ap (λ zs. length zs) c.requires.capacities, length-map c.args.about.now.value.channels (λ (k : ChannelShown). k.capacity)))

there-of : (g : _) (c : After-end_slots-place g) (k : ChannelShown) → slice_get c.args.about.now.value.channels c.args.connection ≡ Some k → IsIn c.args.slots.now.items c.end_slots-place.result.1 (slot.Count k.takes)
there-of g c k at = ap (get_elem? c.args.slots.now.items) c.end_slots-place.ensures.takes ∙ (c.requires.laid k at).takes

takes-of : (g : _) (c : After-number_in-takes g) (k : ChannelShown) → IsIn c.args.slots.now.items c.end_slots-place.result.1 (slot.Count k.takes) → c.number_in-takes.result ≡ k.takes
takes-of g c k there = let n = c.number_in-takes.result in
    count-is (slot.Count n) n k.takes refl (some-injective (slot.Count n) (slot.Count k.takes) (sym c.number_in-takes.ensures ∙ there))

pub number_in-takes-requires : goal.number_in-takes-requires
number_in-takes-requires g c = let at = (goal.at.number_in-takes-requires g c).After-end_slots-place in let k = channel-of g at in (k.0.takes, there-of g at k.0 k.1)

pub restart-requires : goal.restart-requires
restart-requires g c = let k = channel-of g (goal.at.restart-requires g c).After-end_slots-place in ap (λ x. x.packets) (c.requires.emptied k.0 k.1)

pub put_back-requires : goal.put_back-requires
put_back-requires g c = let all = goal.at.put_back-requires g c in record {
  range = c.requires.range;
  capacities = c.requires.capacities;
  sound = c.requires.sound;
  deep = c.requires.deep;
  puts = λ k there. c.puts-puts.ensures ∙ ap (λ x. x.puts) (c.requires.emptied k there);
  empty = λ k there. (let is = c.requires.emptied k there in let takes = takes-of g all.After-number_in-takes k (there-of g all.After-end_slots-place k there) in let senders : c.open_senders-senders.result ≡ k.open_senders = c.open_senders-senders.ensures ∙ ap (λ x. x.open_senders) is in
      c.restart.ensures ∙ (λ j. record { packets = (is j).packets; capacity = (is j).capacity; open_senders = senders j; puts = takes j; takes = takes j }));
  cells = λ k there. (c.requires.laid k there).cells;
}
