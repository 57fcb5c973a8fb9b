use Rattle.flow_witness.proofs.LoneMet.{met}
use Rattle.flow_witness.proofs.complete.the_premises_with_parts_are_met.Goals as goal

pub returns : goal.returns
returns c = met c.a_valid_plan_is_ready.ensures.starts c.own_components_fit.ensures.played c.every_schedule_keeps_the_packets.ensures.prefixes
    c.a_file_has_one_journal_or_one_fault.ensures.journal c.a_file_has_one_list_of_tapes_or_one_fault.ensures.tapes
