use Rattle.std.proofs.Common.{◌∙◌, ap, arith}
use Rattle.std.specs.Ordering.{ordering_reverse}
use Rattle.flow_decimal.proofs.Comparing.{first-scaled, second-scaled}
use Rattle.flow_decimal.proofs.order.sizes_cmp.Goals as goal

pub returns-then-others-zeros : goal.returns-then-others-zeros
returns-then-others-zeros c = c.scaled_cmp.ensures ∙ first-scaled c.args.size c.args.zeros c.args.other c.args.others c.if-others-zeros.true

pub returns : goal.returns
returns c = c.reverse.ensures ∙ ap ordering_reverse c.scaled_cmp-2.ensures ∙ second-scaled c.args.size c.args.zeros c.args.other c.args.others (omega arith)
