use Rattle.std.proofs.Common.{refl}
use Rattle.flow_witness.proofs.Planned.{planned}
use Rattle.flow_witness.proofs.Starting.{starts}
use Rattle.flow_witness.proofs.Round.{s3, at, is_round, all_ended}
use Rattle.flow_witness.proofs.the_first_run.Goals as goal

pub returns : goal.returns
returns c = record { planned = planned; starts = starts; last = s3; round = is_round; finished = all_ended; empty = refl; writer = at s3 2; there = refl; written = refl }
