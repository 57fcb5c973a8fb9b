-- The Telegram's network is the plan of its text: what the calls of a builder make of it, one after another.
use Rattle.flow_limits.specs.declared.TheConstants.{TEXT_LIMIT}
use Rattle.std.proofs.Common.{ℕ, zero, suc, Some, None, Ok, refl, arith}
use Rattle.std.specs.Prelude.{codes}
use Rattle.std.proofs.lemmas.List.Elements.{All-nil}
use Rattle.flow_net.specs.declared.draft.End.{End}
use Rattle.flow_net.specs.Drafts.{Draft}
use Rattle.flow_net.specs.Calls.{with_process, joined, given}
use Rattle.flow_plan.specs.Texts.{IsFileName, IsNumberWithin}
use Rattle.flow_plan.specs.Templates.{Fits, TemplatesFit}
use Rattle.flow_flat.specs.Faults.{ComesTo}
use Rattle.flow_flat.specs.Told.{HasShortTexts, IsDraft, empty}
use Rattle.flow_flat.proofs.Outcomes.{told_is_said}
use Rattle.flow_catalogue.specs.declared.table.StdKind.TheVariants as kinds
use Rattle.flow_catalogue.specs.Kinds.{spec_of, std_kinds}
use Rattle.flow_witness.specs.Telegram.{telegram, telegram_component}
use Rattle.flow_witness.proofs.FileNames.{plain-name}

-- The draft with its four processes.
abbrev named : Draft
named =
    with_process
    (with_process (with_process (with_process (empty std_kinds) (codes "Read") (spec_of kinds.ReadLines)) (codes "Words") (spec_of kinds.Words)) (codes "Fill") (spec_of kinds.Fill))
    (codes "Write") (spec_of kinds.WriteLines)

-- The only element of the port at a place.
abbrev at : ℕ → End
at place = record { port = place; element = 0 }

-- The draft after each statement.
abbrev with_input : Draft
with_input = given named (at 0) (codes "in.txt")

abbrev with_lines : Draft
with_lines = joined with_input (at 2) (at 4) None

abbrev with_words : Draft
with_words = joined with_lines (at 6) (at 9) (Some 20)

abbrev with_size : Draft
with_size = given with_words (at 8) (codes "12")

abbrev with_telegram : Draft
with_telegram = joined with_size (at 11) (at 14) None

abbrev with_output : Draft
with_output = given with_telegram (at 13) (codes "out.txt")

in_name : IsFileName (codes "in.txt")
in_name = plain-name (codes "in.txt") refl

out_name : IsFileName (codes "out.txt")
out_name = plain-name (codes "out.txt") refl

twelve : IsNumberWithin 1 TEXT_LIMIT (codes "12")
twelve = (((omega arith, (omega arith, (omega arith, tt))), λ h. absurd (omega (arith, h))), omega arith, omega arith)

drafted : IsDraft std_kinds telegram_component (Ok with_output)
drafted = (
  Ok with_input,
  (at 0, refl, in_name, refl),
  (Ok with_lines, refl, (Ok with_words, refl, (Ok with_size, (at 8, refl, twelve, refl), (Ok with_telegram, refl, (Ok with_output, (at 13, refl, out_name, refl), refl))))),
)

short : HasShortTexts telegram_component
short zero d below = omega arith
short (suc zero) d below = tt
short (suc (suc zero)) d below = tt
short (suc (suc (suc zero))) d below = omega arith
short (suc (suc (suc (suc zero)))) d below = tt
short (suc (suc (suc (suc (suc zero))))) d below = omega arith
short (suc (suc (suc (suc (suc (suc k)))))) d below = absurd (omega (arith, below))

-- No text of it is a template.
templates : TemplatesFit telegram
templates = All-nil Fits

-- The worked network comes to its plan.
pub planned : ComesTo std_kinds telegram_component (Ok telegram)
planned = told_is_said std_kinds telegram_component (Ok telegram) refl short (Ok with_output, drafted, (refl, templates, refl))
