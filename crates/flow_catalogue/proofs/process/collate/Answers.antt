use Rattle.std.proofs.Common.{refl, sym, subst}
use Rattle.std.specs.Prelude.{codes}
use Rattle.flow_plan.specs.declared.kind.PortClass.TheVariants.{Fields}
use Rattle.flow_plan.specs.Texts.{IsFields}
use Rattle.flow_catalogue.specs.Rows.{option_port}
use Rattle.flow_catalogue.proofs.OptionTexts.{needed-text}
use Rattle.flow_catalogue.proofs.process.collate.Goals as goal

pub fields-requires : goal.fields-requires
fields-requires c = subst IsFields (sym c.option_text.ensures) (needed-text _ c.args.process.now.options 0 (option_port (codes "FIELDS") Fields) c.requires.fields refl refl refl)
