use Rattle.std.proofs.Common.{◌≡◌, ℕ, ◌==◌, false, true, List, [], length, Option, Some, None, refl, sym, subst, inl, inr}
use Rattle.std.specs.Prelude.{codes, unwrap_or}
use Rattle.flow_pattern.specs.Pattern.{IsPattern}
use Rattle.flow_pattern.specs.Template.{IsTemplate}
use Rattle.flow_plan.specs.declared.kind.PortClass.TheVariants.{Pattern, Template}
use Rattle.flow_catalogue.specs.Rows.{option_at, option_port, optional_option_port}
use Rattle.flow_catalogue.specs.Processes.{option_text}
use Rattle.flow_catalogue.proofs.OptionTexts.{needed-text, any-template}
use Rattle.flow_catalogue.proofs.spelled.finder.Goals as goal

-- a text that isn't empty is given
is-given : (text : Option (List ℕ)) → false ≡ (length (unwrap_or text []) == 0) → text ≡ None → ⊥
is-given None some none = let h : false ≡ true = some in cc
is-given (Some text) some none = cc

pub new-requires : goal.new-requires
new-requires c = record { pattern = subst IsPattern (sym c.option_text-pattern.ensures) (needed-text _ c.args.process.now.options 0 (option_port (codes "PATTERN") Pattern) c.requires.options refl refl refl) }

pub filling-requires-clause-pattern : goal.filling-requires-clause-pattern
filling-requires-clause-pattern c = subst IsPattern (sym c.option_text-pattern.ensures) (needed-text _ c.args.process.now.options 0 (option_port (codes "PATTERN") Pattern) c.requires.options refl refl refl)

pub filling-requires-clause-template : goal.filling-requires-clause-template
filling-requires-clause-template c =
    let options = c.args.process.now.options in
    let with = c.option_text-with.ensures in
    let some : false ≡ (length (option_text 1 options) == 0) = subst (λ (ts : List ℕ). false ≡ (length ts == 0)) with (c.if-is_empty.ensures {u = tt}) in
    let is : IsTemplate (option_text 0 options) (option_text 1 options) = elim (any-template _ options 1 0 (optional_option_port (codes "WITH") (Template 0)) c.requires.options refl refl) [
      | inl none ↦ absurd (is-given (option_at 1 options) some none)
      | inr is ↦ is
    ] in
    subst (λ (p : List ℕ). IsTemplate p c.option_text-with.result.now) (sym c.option_text-pattern.ensures) (subst (IsTemplate (option_text 0 options)) (sym with) is)
