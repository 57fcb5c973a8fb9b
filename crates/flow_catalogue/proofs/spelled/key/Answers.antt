use Rattle.std.proofs.Common.{◌≡◌, ℕ, ◌==◌, true, false, List, [], ◌∷◌, length, refl, sym, subst, ◌⊎◌, inl, inr}
use Rattle.std.specs.Prelude.{codes}
use Rattle.flow_pattern.specs.Pattern.{IsPattern}
use Rattle.flow_plan.specs.declared.kind.PortClass.TheVariants.{Pattern}
use Rattle.flow_catalogue.specs.Rows.{optional_option_port}
use Rattle.flow_catalogue.specs.Processes.{option_text}
use Rattle.flow_catalogue.proofs.OptionTexts.{any-text}
use Rattle.flow_catalogue.proofs.spelled.key.Goals as goal

-- a text that isn't empty is of its class
of-class : (text : List ℕ) → false ≡ (length text == 0) → (text ≡ []) ⊎ IsPattern text → IsPattern text
of-class [] some is = absurd (let h : false ≡ true = some in cc)
of-class (c ∷ cs) some (inl none) = absurd (cc)
of-class (c ∷ cs) some (inr is) = is

pub found-requires : goal.found-requires
found-requires c =
    let text = c.option_text-pattern.ensures in
    let some : false ≡ (length (option_text 0 c.args.process.now.options) == 0) = subst (λ (ts : List ℕ). false ≡ (length ts == 0)) text (c.if-is_empty.ensures {u = tt}) in
    record { pattern = subst IsPattern (sym text) (of-class (option_text 0 c.args.process.now.options) some (any-text _ c.args.process.now.options 0 (optional_option_port (codes "KEY") Pattern) c.requires.options refl refl)) }
