use Rattle.flow_cli.proofs.Playing.{leaves}
use Rattle.flow_cli.proofs.ran.told.Goals as goal

pub returns-clause-leaves : goal.returns-clause-leaves
returns-clause-leaves g c =
    leaves (record {
      runs = c.a_run_of_parts_is_one_of_players.ensures.runs;
      in_place = c.players_are_told_of.ensures.places;
      told = c.players_are_told_of.ensures.report;
      stay = c.parts_stay_parts.ensures;
    })
    c.own_components_fit.ensures.mixed c.a_valid_plan_is_ready.ensures.starts c.a_round_of_a_net_is_a_run.ensures c.what_workers_reach_is_a_run.ensures c.a_report_tells_of_its_state.ensures
    c.a_schedule_sees_no_more_than_its_turns.ensures c.args.own.now c.args.plan c.args.worked c.tell.result c.requires c.tell.ensures.net c.tell.ensures.crew c.tell.ensures.report c.tell.ensures.journal c.tell.ensures.tapes
