use Rattle.std.proofs.Common.{◌∙◌, ap, refl, arith}
use mathlib.Core.Option.{some}
use Rattle.atomic_table.proofs.Lists.{at_index}
use Rattle.flow_floor.proofs.Lists.{at_inside}
use Rattle.flow_floor.specs.declared.board.Slot.TheVariants as slot
use Rattle.flow_floor.proofs.Filling.{found-in}
use Rattle.flow_floor.proofs.back.number_in.Goals as goal

pub index-requires : goal.index-requires
index-requires g c = omega (arith, at_inside c.args.slots.now.items c.args.place (slot.Count c.requires.0) c.requires.1, c.args.slots.now.ok.0)

pub unreachable-requires : goal.unreachable-requires
unreachable-requires g c = c.in_default.not-Count c.requires.0 (found-in c.args.slots.now.items c.args.place c.args.place c.index.result.now (slot.Count c.requires.0) refl c.index.ensures c.requires.1)

pub returns : goal.returns
returns g c = at_index c.args.slots.now.items c.args.place c.index.result.now (at_inside c.args.slots.now.items c.args.place (slot.Count c.requires.0) c.requires.1) c.index.ensures ∙ ap (λ x. some x) c.in-Count.is
