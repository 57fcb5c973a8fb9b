use Rattle.std.proofs.Common.{◌≡◌, length, drop}
use Rattle.flow_flat.specs.Told.{after_processes}
use Rattle.flow_expand.proofs.processes.put_processes.Given as goal

abbrev pub invariant-list : goal.invariant-list
invariant-list l = after_processes l.fn.builder l.fn.list.items ≡ after_processes l.builder (drop (length l.yielded) l.fn.list.items)
