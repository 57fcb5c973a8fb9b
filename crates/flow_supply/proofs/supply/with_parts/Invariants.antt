use Rattle.std.proofs.Common.{◌≡◌, ◌+◌, length}
use Rattle.std.specs.Iterator.Adapters.{zip_first, zip_second}
use Rattle.std.specs.Vec.Iter.{into_iter_items, into_iter_len}
use Rattle.flow_supply.proofs.Supplying.{KindsSoFar}
use Rattle.flow_supply.proofs.supply.with_parts.Given as goal

abbrev pub invariant-loop-spec : goal.invariant-loop-spec
invariant-loop-spec g l = record {
  specs_left : into_iter_len (zip_first l.spec-iterator) + length l.kinds.items ≡ length l.fn.own.items;
  parts_left : into_iter_len (zip_second l.spec-iterator) + length l.kinds.items ≡ length l.fn.parts.items;
  so_far : KindsSoFar l.fn.own.items l.fn.parts.items (into_iter_items (zip_first l.spec-iterator)) (into_iter_items (zip_second l.spec-iterator)) l.kinds.items;
}
