use Rattle.std.proofs.Common.{refl, sym, subst}
use Rattle.std.specs.Prelude.{codes}
use Rattle.flow_plan.specs.declared.kind.PortClass.TheVariants.{Bound}
use Rattle.flow_plan.specs.Texts.{IsBound}
use Rattle.flow_catalogue.specs.Rows.{option_port}
use Rattle.flow_catalogue.proofs.OptionTexts.{needed-text}
use Rattle.flow_catalogue.proofs.spelled.bounding.Goals as goal

pub bound-requires : goal.bound-requires
bound-requires c = subst IsBound (sym c.option_text.ensures) (needed-text _ c.args.process.now.options 0 (option_port (codes "IS") Bound) c.requires.options refl refl refl)
