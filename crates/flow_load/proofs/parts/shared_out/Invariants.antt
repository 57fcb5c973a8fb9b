use Rattle.flow_load.specs.Offers.{counts_left, counts_of, parts_in, parts_left}
use Rattle.flow_load.proofs.Ordering.{SharedInOrder}
use Rattle.flow_load.proofs.Sharing.{SharedOut}
use Rattle.flow_load.proofs.parts.shared_out.Given as goal

abbrev pub invariant-loop-process : goal.invariant-loop-process
invariant-loop-process g l = record {
  counts : SharedOut l.own l.plan (counts_of l.fn.parts.items) (counts_left l.queues.items) l.process l.shared.items;
  order : SharedInOrder l.own l.plan (parts_in l.fn.parts.items) (parts_left l.queues.items) l.process l.shared.items;
}
