use Rattle.flow_played.proofs.WholeRuns.{plays-schedules, plays-whole-runs}
use Rattle.flow_played.proofs.laws.a_run_of_parts_is_one_of_players.Goals as goal

pub returns-clause-schedules : goal.returns-clause-schedules
returns-clause-schedules g c = plays-schedules g.K.Component.rules c.every_schedule_keeps_the_packets.ensures.prefixes

pub returns-clause-runs : goal.returns-clause-runs
returns-clause-runs g c = plays-whole-runs g.K.Component.rules c.every_schedule_keeps_the_packets.ensures.prefixes
