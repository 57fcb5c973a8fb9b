use Rattle.std.proofs.Common.{◌≡◌, ℕ, ◌<◌, length, slice_index, vec_capacity}
use Rattle.flow_ring.specs.Places.{cells_before}
use Rattle.flow_ring.proofs.layout.first_cells.Given as goal

abbrev pub invariant-loop-c : goal.invariant-loop-c
invariant-loop-c l = record {
  count : length l.firsts.items ≡ l.c;
  room : length l.capacities < vec_capacity l.firsts;
  each : (i : ℕ) → i < l.c → slice_index l.firsts.items i ≡ cells_before l.capacities i;
  so_far : l.before ≡ cells_before l.capacities l.c;
}
