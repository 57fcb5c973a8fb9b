use Rattle.std.proofs.Common.{◌≡◌, ◌∙◌, ap₂, false}
use Rattle.clap.specs.Built.{AddsArg}
use Rattle.clap.specs.Simple.{with_rule}
use Rattle.flow_draw.proofs.help.help_line.Goals as goal

pub returns : goal.returns
returns c = c.in_ok-line-2.ensures.shape c.help_flag.ensures.local ∙ ap₂ with_rule c.in_ok-line.ensures c.help_flag.ensures.rule
