use Rattle.flow_runner.proofs.Several.{several-are-not-told}
use Rattle.flow_runner.proofs.orders.several_passes_are_never_told.Goals as goal

pub returns : goal.returns
returns c = several-are-not-told
