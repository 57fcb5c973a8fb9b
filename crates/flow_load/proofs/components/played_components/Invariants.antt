use Rattle.std.proofs.Common.{◌≡◌, ◌+◌, drop, length}
use Rattle.std.specs.Slice.Iter.{iter_rest}
use Rattle.std.specs.Vec.Iter.{into_iter_items, into_iter_len}
use Rattle.flow_load.specs.Components.{IsPlayedComponent, contents_of}
use Rattle.flow_load.proofs.Placing.{AreMade, rank, is_own_at, tape_of}
use Rattle.flow_load.proofs.components.played_components.Given as goal

abbrev pub invariant-loop-bytes : goal.invariant-loop-bytes
invariant-loop-bytes l = record {
  given_left : into_iter_len l.bytes-iterator + l.process ≡ length l.fn.given.items;
  given : into_iter_items l.bytes-iterator ≡ drop l.process l.fn.given.items;
  tapes_left : iter_rest l.left ≡ drop (rank (is_own_at l.fn.own l.fn.plan) l.process) l.fn.tapes;
  made : AreMade (λ p bytes component. IsPlayedComponent l.fn.own l.fn.plan p bytes (tape_of l.fn.own l.fn.plan l.fn.tapes p) component) (contents_of l.fn.given.items) l.process l.components.items;
}
