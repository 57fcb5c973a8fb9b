use Rattle.flow_witness.proofs.Worked.{met}
use Rattle.flow_witness.proofs.complete.the_premises_of_completeness_are_met.Goals as goal

pub returns : goal.returns
returns c = met c.a_valid_plan_is_ready.ensures.starts c.every_schedule_keeps_the_packets.ensures.prefixes
    c.a_network_without_own_components_runs_as_it_is.ensures c.a_network_without_own_components_tells_as_it_is.ensures.told
    c.a_file_has_one_journal_or_one_fault.ensures.journal
