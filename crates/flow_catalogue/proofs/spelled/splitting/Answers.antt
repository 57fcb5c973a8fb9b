use Rattle.std.proofs.Common.{refl, sym, subst}
use Rattle.std.specs.Prelude.{codes}
use Rattle.flow_pattern.specs.Pattern.{IsPattern}
use Rattle.flow_plan.specs.declared.kind.PortClass.TheVariants.{Pattern}
use Rattle.flow_catalogue.specs.Rows.{option_port}
use Rattle.flow_catalogue.proofs.OptionTexts.{needed-text}
use Rattle.flow_catalogue.proofs.spelled.splitting.Goals as goal

pub new-requires : goal.new-requires
new-requires c = record { pattern = subst IsPattern (sym c.option_text-2.ensures) (needed-text _ c.args.process.now.options 0 (option_port (codes "PATTERN") Pattern) c.requires.options refl refl refl) }
