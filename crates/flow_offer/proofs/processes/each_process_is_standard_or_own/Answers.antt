use Rattle.flow_offer.proofs.Owns.{each-standard-or-own}
use Rattle.flow_offer.proofs.processes.each_process_is_standard_or_own.Goals as goal

pub returns : goal.returns
returns c = each-standard-or-own c.a_plan_over_more_kinds_is_standard_beside_them.ensures
