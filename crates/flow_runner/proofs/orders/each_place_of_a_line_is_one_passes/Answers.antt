use Rattle.flow_runner.proofs.InOrder.{each-is-in-order, one-knows-all, places-are-ones, pops-are-pushes}
use Rattle.flow_runner.proofs.orders.each_place_of_a_line_is_one_passes.Goals as goal

pub returns-clause-places : goal.returns-clause-places
returns-clause-places c = places-are-ones

pub returns-clause-order : goal.returns-clause-order
returns-clause-order c = pops-are-pushes

pub returns-clause-each : goal.returns-clause-each
returns-clause-each c = each-is-in-order

pub returns-clause-alone : goal.returns-clause-alone
returns-clause-alone c = one-knows-all
