use Rattle.std.proofs.Common.{◌≡◌, ℕ, List, length, arith, sym, ap, ◌∙◌, subst}
use Rattle.std.specs.Mem.Slots.{slots_items, slots_filled, slots_len, IsFull}
use Rattle.flow_model.specs.Stands.{ChannelShown}
use Rattle.flow_machine.specs.Values.{net_with}
use Rattle.flow_ring.specs.Spaced.{ranked}
use Rattle.flow_floor.specs.Shut.{ListsStarved, HasBodies, BodiesIn, AreEmpty}
use Rattle.flow_ring.specs.Places.{slot_count}
use Rattle.flow_floor.proofs.Closing.{Closes, closing, final-ranked, has-bodies, each-rests, each-same, channels-same, emptied-empty, pieces, is-shut, join-pieces, starved-unset, over-told, quiet-none}
use Rattle.flow_floor.proofs.Refilling.{left-first}
use Rattle.flow_floor.proofs.floor.Floor.shut.Goals as goal
use Rattle.flow_floor.proofs.floor.Floor.shut.Goals.{After-close_with-closed, After-refill_all-channels, After-join}

-- What stands when the table is closed.
closed-of : (g : _) (c : After-close_with-closed g) → Closes g.K.Component.rules c.args.self.table.shared.key.value c.args.worker.seat.me.0 (ranked (slots_items c.close_with-closed.result.words)) (slots_items c.close_with-closed.result.slots)
closed-of g c = let s = c.args.self in let w = c.args.worker.seat in
    closing g.K.Component.rules s.table.shared.key.value w.id w.me.0 _ _ c.requires.all c.requires.worker.held (final-ranked g.K.Component.rules s.table.shared.key.value w.id w.me.0 _ _ c.close_with-closed.ensures.values.2)

pub take_bodies-bodies-requires-clause-stocked : goal.take_bodies-bodies-requires-clause-stocked
take_bodies-bodies-requires-clause-stocked g c = let s = c.args.self in
    subst (λ n. HasBodies n (slots_items c.close_with-closed.result.slots)) s.bodies
    (has-bodies g.K.Component.rules s.table.shared.key.value c.args.worker.seat.me.0 _ _ (closed-of g (goal.at.take_bodies-bodies-requires-clause-stocked g c).After-close_with-closed))

pub refill_all-channels-requires-clause-words : goal.refill_all-channels-requires-clause-words
refill_all-channels-requires-clause-words g c = let e = c.take_bodies-bodies.ensures in let closed = c.close_with-closed.ensures in
    (subst (λ ws. IsFull ws) (sym e.words) closed.values.0, ap (λ ws. slots_len ws) e.words ∙ closed.counts.0 ∙ c.args.self.words)

pub refill_all-channels-requires-clause-rest : goal.refill_all-channels-requires-clause-rest
refill_all-channels-requires-clause-rest g c = let s = c.args.self in let e = c.take_bodies-bodies.ensures in
    each-same _ _ _ _ _ _ _ _ s.bodies (sym s.capacities) (ap (λ ws. ranked (slots_items ws)) (sym e.words)) (sym e.same.0)
    (each-rests g.K.Component.rules s.table.shared.key.value c.args.worker.seat.me.0 _ _ (closed-of g (goal.at.refill_all-channels-requires-clause-rest g c).After-close_with-closed))

pub refill_all-channels-requires-clause-left : goal.refill_all-channels-requires-clause-left
refill_all-channels-requires-clause-left g c = let s = c.args.self in let e = c.take_bodies-bodies.ensures in
    let deep = c.close_with-closed.ensures.counts.1 ∙ s.slots ∙ (λ j. slot_count s.layout.processes (sym s.capacities j)) in
    left-first s.layout.processes s.layout.capacities.items (slots_filled c.take_bodies-bodies.new.closed.slots) e.gone (λ k high low. e.left k high (omega (arith, low, deep)))

pub refill_all-channels-requires-clause-empty : goal.refill_all-channels-requires-clause-empty
refill_all-channels-requires-clause-empty g c = let s = c.args.self in
    subst (λ (z : List ℕ × List ChannelShown). AreEmpty z.0 z.1) (λ j. (sym s.capacities j, sym c.requires.rooms.channels j)) (emptied-empty s.table.shared.key.value.channels)

-- The pieces are those of the net that the machine has.
pieces-of : (g : _) (c : After-refill_all-channels g) (cl : Closes g.K.Component.rules c.args.self.table.shared.key.value c.args.worker.seat.me.0 (ranked (slots_items c.close_with-closed.result.words)) (slots_items c.close_with-closed.result.slots)) → cl.now ≡ net_with c.args.self.plan.items c.take_bodies-bodies.result.items c.refill_all-channels.result.items
pieces-of g c cl = let s = c.args.self in let e = c.take_bodies-bodies.ensures in
    pieces g.K.Component.rules s.table.shared.key.value c.args.worker.seat.me.0 _ _ s.plan.items c.take_bodies-bodies.result.items c.refill_all-channels.result.items cl s.planned
    (subst (λ n. BodiesIn n (slots_items c.close_with-closed.result.slots) c.take_bodies-bodies.result.items) (sym s.bodies) e.bodies)
    (channels-same _ _ _ _ _ _ _ _ c.refill_all-channels.result.items (sym s.bodies) s.capacities (ap (λ ws. ranked (slots_items ws)) e.words) e.same.0 c.refill_all-channels.ensures.channels)

pub join-requires : goal.join-requires
join-requires g c = let at = goal.at.join-requires g c in let cl = closed-of g at.After-close_with-closed in
    join-pieces g.K.Component.rules c.args.self.table.shared.key.value c.args.worker.seat.me.0 _ _ _ cl (pieces-of g at.After-refill_all-channels cl)

-- The processes that are listed, by the net that comes out.
lists-of : (g : _) (c : After-join g) → ListsStarved (ranked (slots_items c.close_with-closed.result.words)) c.join.result.bodies (length c.join.result.bodies) c.list_starved-starved.result.items
lists-of g c =
    subst (λ bs. ListsStarved (ranked (slots_items c.close_with-closed.result.words)) bs (length bs) c.list_starved-starved.result.items) (c.as_slice.ensures.value ∙ sym (ap (λ n. n.bodies) c.join.ensures))
    (subst (λ ws. ListsStarved (ranked (slots_items ws)) c.as_slice.result.now (length c.as_slice.result.now) c.list_starved-starved.result.items) c.take_bodies-bodies.ensures.words c.list_starved-starved.ensures)

pub returns-clause-net : goal.returns-clause-net
returns-clause-net g c = let at = goal.at.returns-clause-net g c in let cl = closed-of g at.After-close_with-closed in
    is-shut g.K.Component.rules c.args.self.table.shared.key.value c.args.worker.seat.me.0 _ _ c.join.result cl (pieces-of g at.After-refill_all-channels cl ∙ sym c.join.ensures)

pub returns-clause-starved : goal.returns-clause-starved
returns-clause-starved g c = let at = goal.at.returns-clause-starved g c in let cl = closed-of g at.After-close_with-closed in
    starved-unset g.K.Component.rules c.args.self.table.shared.key.value c.args.worker.seat.me.0 _ _ c.join.result _ c.list_starved-starved.result.items cl (pieces-of g at.After-refill_all-channels cl ∙ sym c.join.ensures) (lists-of g at.After-join)

pub returns-clause-ended_are_told : goal.returns-clause-ended_are_told
returns-clause-ended_are_told g c = let at = goal.at.returns-clause-ended_are_told g c in let cl = closed-of g at.After-close_with-closed in
    over-told g.K.Component.rules c.args.self.table.shared.key.value c.args.worker.seat.me.0 _ _ c.join.result cl (pieces-of g at.After-refill_all-channels cl ∙ sym c.join.ensures)

pub returns-clause-quiet : goal.returns-clause-quiet
returns-clause-quiet g c = let at = goal.at.returns-clause-quiet g c in let cl = closed-of g at.After-close_with-closed in
    quiet-none g.K.Component.rules c.args.self.table.shared.key.value c.args.worker.seat.me.0 _ _ c.join.result c.list_starved-starved.result.items cl (pieces-of g at.After-refill_all-channels cl ∙ sym c.join.ensures) (lists-of g at.After-join)
