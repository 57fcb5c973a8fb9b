-- What is told of options.
use Rattle.std.proofs.Common.{◌≡◌, ℕ, ◌-◌, ◌^◌, ◌<◌, ◌≤◌, List, Option, Some, None, SomeIff, sym, ap, ◌∙◌, subst, arith}
use Rattle.std.specs.Option.{option_and_then}
use Rattle.flow_text.specs.Text.{IsPlain, number_of}
use Rattle.flow_plan.specs.declared.kind.PortClass.{PortClass}
use Rattle.flow_plan.specs.declared.kind.PortClass.TheVariants.{Number}
use Rattle.flow_plan.specs.declared.kind.PortSpec.{PortSpec}
use Rattle.flow_plan.specs.Texts.{IsNumberWithin, IsOfClass}
use Rattle.flow_catalogue.specs.Rows.{HasOptions, IsGiven, option_at}
use Rattle.flow_supply.specs.Options.{IsNumberGiven, IsOptionNamed, Wanted, option_named, port_place}

-- The text of an option is that at its port's place.
pub named-at : (wanted : Wanted) (name : List ℕ) (place : ℕ) → port_place wanted.kind.inputs name ≡ Some place → option_named wanted name ≡ option_at place wanted.options
named-at wanted name place placed = ap (option_and_then (λ (p : ℕ). option_at p wanted.options)) placed

-- Without such a port there is no text.
pub unnamed : (wanted : Wanted) (name : List ℕ) → port_place wanted.kind.inputs name ≡ None → option_named wanted name ≡ None
unnamed wanted name none = ap (option_and_then (λ (p : ℕ). option_at p wanted.options)) none

-- An option that is told by its name is given what its port may be.
pub given : (wanted : Wanted) (name : List ℕ) (text : Option (List ℕ)) → HasOptions wanted.kind.inputs wanted.options → text ≡ option_named wanted name → (port : PortSpec)
    → IsOptionNamed wanted.kind.inputs name port → IsGiven port text
given wanted name text has told port is =
    subst (IsGiven port) (sym (told ∙ named-at wanted name is.place is.placed)) (has.each is.place port is.there is.takes_text)

-- The text of an option for numbers spells one within its bounds.
pub number-given : (port : PortSpec) (least most : ℕ) (text : List ℕ) (number : Option ℕ) → IsGiven port (Some text) → port.class ≡ Number least most → most < 2 ^ 64
    → SomeIff number (IsPlain text × (0 ≤ number_of text) × (number_of text ≤ 2 ^ 64 - 1)) (number_of text) → IsNumberGiven port least most number
number-given port least most text number is class few told = by number (subst (λ (c : PortClass). IsOfClass c text) class is) told
  where
    by : (number : Option ℕ) → IsNumberWithin least most text → SomeIff number (IsPlain text × (0 ≤ number_of text) × (number_of text ≤ 2 ^ 64 - 1)) (number_of text) → IsNumberGiven port least most number
    by None within told = absurd (told (within.0, omega arith, omega (arith, within.2, few)))
    by (Some number) within told = (omega (arith, within.1, told.1), omega (arith, within.2, told.1))
