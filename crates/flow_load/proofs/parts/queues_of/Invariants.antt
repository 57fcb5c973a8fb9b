use Rattle.std.proofs.Common.{◌≡◌}
use Rattle.flow_load.specs.Offers.{counts_left, counts_of, parts_in, parts_left}
use Rattle.flow_load.proofs.parts.queues_of.Given as goal

abbrev pub invariant-loop-kind : goal.invariant-loop-kind
invariant-loop-kind g l = record {
  counts : counts_left l.queues.items ≡ counts_of l.yielded;
  parts : parts_left l.queues.items ≡ parts_in l.yielded;
}
