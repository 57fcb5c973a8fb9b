use Rattle.std.proofs.Common.{sym, ◌∙◌}
use mathlib.Core.Option.{some-injective}
use Rattle.flow_floor.specs.declared.board.Slot.TheVariants as slot
use Rattle.flow_floor.proofs.refill.take_number.Goals as goal

pub unreachable-requires : goal.unreachable-requires
unreachable-requires g c = let n = c.requires.there in
    c.in_default.not-Count n.0 (some-injective c.take-slot.result (slot.Count n.0) (sym c.take-slot.ensures.value ∙ n.1))
