use Rattle.std.proofs.Common.{◌≡◌, ◌∙◌, ap, sym, arith, length, length-append, map, subst}
use Rattle.std.proofs.lemmas.List.{length-map}
use lib.ListN.{get_elem?}
use Rattle.flow_model.specs.Stands.{ChannelShown}
use Rattle.flow_floor.specs.declared.board.Slot.{Slot}
use Rattle.flow_ring.specs.Places.{cells_before}
use Rattle.flow_floor.specs.Laying.{AreLaid}
use Rattle.flow_floor.proofs.Filling.{bare, bare-bodies, bare-deep, bare-laid, no_packet, of_body, of_puts, of_takes, regroup}
use Rattle.flow_floor.proofs.lays.put_all.Goals as goal
use Rattle.flow_floor.proofs.lays.put_all.Goals.{After-put_cells}

-- How many slots there are after each part.
pub put_bodies-slots-requires : goal.put_bodies-slots-requires
put_bodies-slots-requires g c = let l = c.args.layout.now in omega (arith, ap (λ zs. length zs) c.requires.room.0, c.requires.room.1, c.requires.processes)

pub put_puts-slots-requires : goal.put_puts-slots-requires
put_puts-slots-requires g c = let l = c.args.layout.now in
    omega (arith, ap (λ zs. length zs) c.requires.room.0, c.requires.room.1, c.requires.processes, c.requires.connections, l.counted, c.put_bodies-slots.ensures.room, ap (λ zs. length zs) c.put_bodies-slots.ensures.items, length-append c.args.slots.items (map (of_body {K = g.row.K.Denot}) c.args.bodies.items), length-map c.args.bodies.items (of_body {K = g.row.K.Denot}))

pub put_takes-slots-requires : goal.put_takes-slots-requires
put_takes-slots-requires g c = let l = c.args.layout.now in let puts : ChannelShown → Slot g.row.K.Denot = of_puts in
    omega (
      arith,
      ap (λ zs. length zs) c.requires.room.0,
      c.requires.room.1,
      c.requires.processes,
      c.requires.connections,
      l.counted,
      c.put_bodies-slots.ensures.room,
      ap (λ zs. length zs) c.put_bodies-slots.ensures.items,
      length-append c.args.slots.items (map (of_body {K = g.row.K.Denot}) c.args.bodies.items),
      length-map c.args.bodies.items (of_body {K = g.row.K.Denot}),
      c.put_puts-slots.ensures.room,
      ap (λ zs. length zs) c.put_puts-slots.ensures.items,
      length-append c.put_bodies-slots.result.items (map puts c.args.channels.now),
      length-map c.args.channels.now puts,
    )

pub put_cells-requires : goal.put_cells-requires
put_cells-requires g c = let l = c.args.layout.now in let puts : ChannelShown → Slot g.row.K.Denot = of_puts in let takes : ChannelShown → Slot g.row.K.Denot = of_takes in
    omega (
      arith,
      ap (λ zs. length zs) c.requires.room.0,
      c.requires.room.1,
      c.requires.processes,
      c.requires.connections,
      l.counted,
      c.put_bodies-slots.ensures.room,
      ap (λ zs. length zs) c.put_bodies-slots.ensures.items,
      length-append c.args.slots.items (map (of_body {K = g.row.K.Denot}) c.args.bodies.items),
      length-map c.args.bodies.items (of_body {K = g.row.K.Denot}),
      c.put_puts-slots.ensures.room,
      ap (λ zs. length zs) c.put_puts-slots.ensures.items,
      length-append c.put_bodies-slots.result.items (map puts c.args.channels.now),
      length-map c.args.channels.now puts,
      c.put_takes-slots.ensures.room,
      ap (λ zs. length zs) c.put_takes-slots.ensures.items,
      length-append c.put_puts-slots.result.items (map takes c.args.channels.now),
      length-map c.args.channels.now takes,
      c.cells.ensures,
      ap (cells_before l.capacities.items) l.counted,
    )

-- The slots are the bodies, the numbers of puts and of takes, and empty cells.
bare-of : (g : _) (c : After-put_cells g) → c.put_cells.result.items ≡ bare c.args.layout.now.processes c.args.layout.now.capacities.items c.args.bodies.items c.args.channels.now
bare-of g c = let l = c.args.layout.now in
    regroup (map (of_body {K = g.row.K.Denot}) c.args.bodies.items) (map of_puts c.args.channels.now) (map of_takes c.args.channels.now) no_packet c.cells.result (cells_before l.capacities.items (length l.capacities.items))
    c.args.slots.items c.put_bodies-slots.result.items c.put_puts-slots.result.items c.put_takes-slots.result.items c.put_cells.result.items
    c.requires.room.0 c.put_bodies-slots.ensures.items c.put_puts-slots.ensures.items c.put_takes-slots.ensures.items c.put_cells.ensures (c.cells.ensures ∙ ap (cells_before l.capacities.items) (sym l.counted))

pub returns-clause-deep : goal.returns-clause-deep
returns-clause-deep g c = let l = c.args.layout.now in
    ap (λ zs. length zs) (bare-of g (goal.at.returns-clause-deep g c).After-put_cells) ∙ bare-deep l.processes l.capacities.items c.args.bodies.items c.args.channels.now (sym c.requires.processes) (omega (arith, c.requires.connections, l.counted))

pub returns-clause-bodies : goal.returns-clause-bodies
returns-clause-bodies g c = let l = c.args.layout.now in
    λ p b at. ap (λ zs. get_elem? zs p) (bare-of g (goal.at.returns-clause-bodies g c).After-put_cells) ∙ bare-bodies l.processes l.capacities.items c.args.bodies.items c.args.channels.now p b at

pub returns-clause-empty : goal.returns-clause-empty
returns-clause-empty g c = let l = c.args.layout.now in
    subst (λ zs. AreLaid l.processes l.capacities.items c.args.channels.now 0 zs) (sym (bare-of g (goal.at.returns-clause-empty g c).After-put_cells))
    (bare-laid l.processes l.capacities.items c.args.bodies.items c.args.channels.now (sym c.requires.processes) (omega (arith, c.requires.connections, l.counted)))
