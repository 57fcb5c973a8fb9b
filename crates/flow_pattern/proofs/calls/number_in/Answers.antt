use Rattle.std.proofs.Common.{◌∙◌}
use Rattle.flow_pattern.proofs.Calling.{parsed}
use Rattle.flow_pattern.proofs.calls.number_in.Goals as goal

pub returns : goal.returns
returns c = c.ok.ensures.value ∙ parsed c.args.name.now c.parse.result c.parse.ensures.value.0
