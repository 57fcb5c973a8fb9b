use Rattle.flow_floor.specs.Rule.{in_order}
use Rattle.flow_floor.proofs.Closing.{still-at-zero}
use Rattle.flow_floor.proofs.still.no_process_moves_once_a_worker_has_read_zero.Goals as goal

pub returns : goal.returns
returns g c = λ start s law j v at zero. still-at-zero g.K.Component.rules start (in_order s) law j v at zero
