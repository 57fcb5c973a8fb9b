use Rattle.std.proofs.Common.{List, ℕ, refl, sym, subst}
use Rattle.std.specs.Prelude.{codes}
use Rattle.flow_pattern.specs.Pattern.{IsPattern}
use Rattle.flow_pattern.specs.Template.{IsTemplate}
use Rattle.flow_plan.specs.declared.kind.PortClass.TheVariants.{Pattern, Template}
use Rattle.flow_catalogue.specs.Rows.{option_port}
use Rattle.flow_catalogue.specs.Processes.{option_text}
use Rattle.flow_catalogue.proofs.OptionTexts.{needed-text, needed-template}
use Rattle.flow_catalogue.proofs.spelled.rewriting.Goals as goal

pub new-requires : goal.new-requires
new-requires c =
    let options = c.args.process.now.options in
    let pattern = c.option_text-pattern.ensures in
    let is = needed-template _ options 1 0 (option_port (codes "WITH") (Template 0)) c.requires.options refl refl refl in
    record {
      pattern = subst IsPattern (sym pattern) (needed-text _ options 0 (option_port (codes "PATTERN") Pattern) c.requires.options refl refl refl);
      template = subst (λ (p : List ℕ). IsTemplate p c.option_text.result.now) (sym pattern) (subst (IsTemplate (option_text 0 options)) (sym c.option_text.ensures) is);
    }
