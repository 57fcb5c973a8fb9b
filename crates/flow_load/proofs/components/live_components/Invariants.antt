use Rattle.std.proofs.Common.{◌≡◌, ◌+◌, drop, length}
use Rattle.std.specs.Iterator.Adapters.{zip_first, zip_second}
use Rattle.std.specs.Vec.Iter.{into_iter_items, into_iter_len}
use Rattle.flow_load.specs.Components.{IsLiveComponent, contents_of}
use Rattle.flow_load.proofs.Placing.{AreMade, HoldSoFar}
use Rattle.flow_load.proofs.components.live_components.Given as goal

abbrev pub invariant-loop-bytes : goal.invariant-loop-bytes
invariant-loop-bytes g l = record {
  given_left : into_iter_len (zip_first l.bytes-iterator) + l.process ≡ length l.fn.given.items;
  parts_left : into_iter_len (zip_second l.bytes-iterator) + l.process ≡ length l.fn.parts.items;
  given : into_iter_items (zip_first l.bytes-iterator) ≡ drop l.process l.fn.given.items;
  parts : into_iter_items (zip_second l.bytes-iterator) ≡ drop l.process l.fn.parts.items;
  made : AreMade (IsLiveComponent l.fn.own l.fn.plan) (contents_of l.fn.given.items) l.process l.components.items;
  held : HoldSoFar g.P.Part.seen l.fn.parts.items l.process l.components.items;
}
