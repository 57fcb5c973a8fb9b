-- Who makes the turns of a network: one thread, or workers in threads.
use Rattle.std.specs.Prelude.{◌≡◌, ◌≤◌, ℕ}
use Rattle.flow_component.specs.Laws.{Rules}
use Rattle.flow_load.specs.Offers.{AnyKind, live_rules}
use Rattle.flow_runner.specs.declared.worked.Worked.{Worked}
use Rattle.flow_runner.specs.Crews.{HasWorkers, turns_of_crew}
use Rattle.flow_floor.specs.Shut.{IsShut}
use Rattle.flow_machine.specs.Values.{NetValue}
use Rattle.flow_machine.specs.Solo.{Goes, ReachesNet, round_robin}
use Rattle.flow_machine.specs.Quiet.{IsQuietNet}
use Rattle.flow_machine.specs.Logs.{turns_made}

-- A net went on until no process could, by so many workers, who are the crew: by none its processes took turns on one thread, round and round; by one or more
-- they took them in some order, and all turns are those that the workers made.
pub record WentBy {K : Type 0} (rules : Rules K) (workers : ℕ) (start : NetValue K) (worked : Worked K) : Type 0 where
  pub crew : HasWorkers workers worked.crew
  pub alone : workers ≡ 0 → Goes rules (round_robin rules) start (turns_made start) worked.closed.net (turns_made worked.closed.net)
  pub made : 1 ≤ workers → IsShut rules start (turns_of_crew worked.crew) worked.closed.net
  pub reaches : 1 ≤ workers → ReachesNet rules start worked.closed.net
  pub quiet : 1 ≤ workers → IsQuietNet worked.closed.net

-- The same of a net of live components.
abbrev pub RanBy : ℕ → NetValue AnyKind → Worked AnyKind → Type 0
RanBy workers start worked = WentBy live_rules workers start worked
