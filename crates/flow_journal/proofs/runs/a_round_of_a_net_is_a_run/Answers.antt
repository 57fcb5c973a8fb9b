use Rattle.flow_journal.proofs.Rounds.{round-is-run}
use Rattle.flow_journal.proofs.runs.a_round_of_a_net_is_a_run.Goals as goal

pub returns : goal.returns
returns g c = round-is-run g.K.Component.rules c.every_schedule_keeps_the_packets.ensures.prefixes c.round_robins_are_schedules.ensures
