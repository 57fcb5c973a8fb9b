use Rattle.std.proofs.Common.{◌+◌, [], ◌∷◌, length, arith, ap, sym, length-append}
use Rattle.flow_ring.proofs.Rounds.{cells-more, cells-most, cells-none, pushed}
use Rattle.flow_ring.proofs.layout.first_cells.Goals as goal

pub loop-c-init : goal.loop-c-init
loop-c-init c = record {
  count = ap length c.in_ok-firsts.ensures.items;
  room = omega (arith, c.in_ok-firsts.ensures.capacity);
  each = λ i low. absurd (omega (arith, low));
  so_far = sym (cells-none c.args.capacities.now);
}

pub overflow_add-before : goal.overflow_add-before
overflow_add-before c = let i = c.loop-c.invariant in
    omega (arith, i.so_far, cells-more c.args.capacities.now c.loop-c.c c.loop-c-test.true, cells-most c.args.capacities.now (c.loop-c.c + 1), c.requires)

pub loop-c-preserved : goal.loop-c-preserved
loop-c-preserved c = let i = c.loop-c.invariant in let more = cells-more c.args.capacities.now c.loop-c.c c.loop-c-test.true in record {
  count = omega (arith, i.count, ap length c.push_reserved.ensures.items, length-append c.loop-c.firsts.items (c.loop-c.before ∷ []));
  room = omega (arith, i.room, c.push_reserved.ensures.capacity);
  each = pushed c.args.capacities.now c.loop-c.firsts.items c.push_reserved.new.self.items c.loop-c.before c.loop-c.c c.push_reserved.ensures.items i.count i.so_far i.each;
  so_far = omega (arith, i.so_far, more);
}
