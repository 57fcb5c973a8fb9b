use Rattle.std.proofs.Common.{◌≡◌, ◌∙◌, ◌++◌, None, ap, arith, replicate}
use Rattle.flow_floor.specs.declared.board.Slot.TheVariants as slot
use Rattle.flow_floor.proofs.lays.put_cells.Goals as goal

pub returns : goal.returns
returns g c = let all : c.loop-i._i ≡ c.args.count = omega (arith, c.loop-i-test.false, c.loop-i.auto) in
    c.loop-i.invariant.items ∙ ap (λ n. c.args.slots.items ++ replicate n (slot.Cell None)) all
