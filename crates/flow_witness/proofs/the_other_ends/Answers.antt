use Rattle.flow_witness.proofs.Ring.{stuck}
use Rattle.flow_witness.proofs.Faulty.{failure}
use Rattle.flow_witness.proofs.Merge.{merges}
use Rattle.flow_witness.proofs.the_other_ends.Goals as goal

pub returns-clause-deadlock : goal.returns-clause-deadlock
returns-clause-deadlock c = stuck

pub returns-clause-failure : goal.returns-clause-failure
returns-clause-failure c = failure

pub returns-clause-merge : goal.returns-clause-merge
returns-clause-merge c = merges
