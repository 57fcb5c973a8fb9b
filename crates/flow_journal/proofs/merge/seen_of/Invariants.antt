use Rattle.std.proofs.Common.{◌≡◌, ◌<◌, ◌≤◌, ℕ, List, drop, take, length, get_or}
use Rattle.std.specs.List.{flat_map}
use Rattle.flow_machine.specs.Logs.{Logged, IsLogOf, levels_of}
use Rattle.flow_journal.proofs.merge.seen_of.Given as goal

abbrev pub invariant-loop-stamp : goal.invariant-loop-stamp
invariant-loop-stamp g l = (length l.places.items ≡ length l.net.bodies)
    × ((log : List Logged) → IsLogOf log l.net → (l.seen.items ≡ flat_map (λ turn. turn.seen) (take l.stamp log))
    × ((p : ℕ) → p < length l.net.bodies → (get_or l.places.items p 0 ≤ length (levels_of p 0 log)) × (drop (get_or l.places.items p 0) (levels_of p 0 log) ≡ levels_of p l.stamp (drop l.stamp log))))
