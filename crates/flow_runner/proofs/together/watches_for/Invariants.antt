use Rattle.std.proofs.Common.{◌≡◌, ◌<◌, ◌≤◌, All, length, vec_capacity}
use Rattle.flow_runner.proofs.together.watches_for.Given as goal

-- each watch so far is of one of the workers
abbrev pub invariant-loop-number : goal.invariant-loop-number
invariant-loop-number l = record {
  count : length l.watches.items ≡ l.number;
  room : l.workers ≤ vec_capacity l.watches;
  each : All (λ watch. (watch.number < l.workers) × (length watch.seen.items ≡ l.workers)) l.watches.items;
}
