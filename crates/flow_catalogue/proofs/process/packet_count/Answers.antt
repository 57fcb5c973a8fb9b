use Rattle.std.proofs.Common.{refl, sym, subst}
use Rattle.std.specs.Prelude.{codes}
use Rattle.flow_plan.specs.declared.kind.PortClass.TheVariants.{Number}
use Rattle.flow_plan.specs.Texts.{IsNumberWithin}
use Rattle.flow_catalogue.specs.Rows.{option_port}
use Rattle.flow_catalogue.proofs.OptionTexts.{needed-text}
use Rattle.flow_catalogue.proofs.process.packet_count.Goals as goal

pub number-requires : goal.number-requires
number-requires c = subst (IsNumberWithin 0 4294967295) (sym c.option_text.ensures) (needed-text _ c.args.process.now.options 0 (option_port (codes "COUNT") (Number 0 4294967295)) c.requires refl refl refl)
