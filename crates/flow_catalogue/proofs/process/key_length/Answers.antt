use Rattle.std.proofs.Common.{refl, sym, subst}
use Rattle.std.specs.Prelude.{codes}
use Rattle.flow_plan.specs.declared.kind.PortClass.TheVariants.{Number}
use Rattle.flow_plan.specs.Texts.{IsNumberWithin}
use Rattle.flow_catalogue.specs.Rows.{option_port}
use Rattle.flow_catalogue.proofs.OptionTexts.{needed-text}
use Rattle.flow_catalogue.proofs.process.key_length.Goals as goal

pub number-requires : goal.number-requires
number-requires c = subst (IsNumberWithin 1 255) (sym c.option_text.ensures) (needed-text _ c.args.process.now.options 0 (option_port (codes "KEYLEN") (Number 1 255)) c.requires refl refl refl)
