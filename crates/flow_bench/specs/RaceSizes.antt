-- How large a race may be.
use Rattle.std.specs.Prelude.{◌≤◌}
use Rattle.flow_limits.specs.declared.TheConstants.{WORKER_LIMIT}
use Rattle.flow_bench.specs.declared.race.size.TheConstants.{PACKET_LIMIT, ROUND_LIMIT}
use Rattle.flow_bench.specs.declared.race.size.RaceSize.{RaceSize}

-- Not too many workers, packets and rounds.
pub record IsSize (size : RaceSize) : Type 0 where
  pub manned : size.workers ≤ WORKER_LIMIT
  pub short : size.packets ≤ PACKET_LIMIT
  pub light : size.rounds ≤ ROUND_LIMIT
