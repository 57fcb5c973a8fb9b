use Rattle.std.proofs.Common.{length, ap, arith}
use Rattle.flow_catalogue.proofs.OptionTexts.{short-text}
use Rattle.flow_catalogue.proofs.spelled.gluing.Goals as goal

pub new-glue-requires : goal.new-glue-requires
new-glue-requires c = omega (arith, c.in_ok-between.ensures.len, ap length c.option_text.ensures, short-text _ c.args.process.now.options 0 c.requires.options)
