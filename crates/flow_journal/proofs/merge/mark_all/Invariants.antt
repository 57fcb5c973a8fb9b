use Rattle.std.proofs.Common.{◌≡◌, ◌<◌, ℕ, List, length, get_or}
use Rattle.flow_machine.specs.Logs.{Logged, IsLogOf}
use Rattle.flow_journal.proofs.Stamps.{process_in}
use Rattle.flow_journal.proofs.merge.mark_all.Given as goal

abbrev pub invariant-loop-process : goal.invariant-loop-process
invariant-loop-process g l = (log : List Logged) → IsLogOf log l.net → (k : ℕ) → k < length log → process_in log k < l.process → get_or l.turns k 0 ≡ process_in log k
