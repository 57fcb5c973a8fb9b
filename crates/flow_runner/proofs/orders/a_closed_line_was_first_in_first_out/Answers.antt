use Rattle.flow_runner.proofs.Closed.{closes-in-order}
use Rattle.flow_runner.proofs.orders.a_closed_line_was_first_in_first_out.Goals as goal

pub returns : goal.returns
returns c = closes-in-order
