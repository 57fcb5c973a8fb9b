-- The first network is the plan of its text: what the calls of a builder make of it, one after another.
use Rattle.std.proofs.Common.{ℕ, zero, suc, None, Ok, codes, refl, arith}
use Rattle.std.proofs.lemmas.List.Elements.{All-nil}
use Rattle.flow_net.specs.declared.draft.End.{End}
use Rattle.flow_net.specs.Drafts.{Draft}
use Rattle.flow_net.specs.Calls.{with_process, joined, given}
use Rattle.flow_plan.specs.Texts.{IsFileName}
use Rattle.flow_plan.specs.Templates.{Fits, TemplatesFit}
use Rattle.flow_flat.specs.Faults.{ComesTo}
use Rattle.flow_flat.specs.Told.{HasShortTexts, IsDraft, empty}
use Rattle.flow_flat.proofs.Outcomes.{told_is_said}
use Rattle.flow_catalogue.specs.declared.table.StdKind.TheVariants as kinds
use Rattle.flow_catalogue.specs.Kinds.{spec_of, std_kinds}
use Rattle.flow_witness.specs.FirstRun.{first_network, first_component}
use Rattle.flow_witness.proofs.FileNames.{plain-name}

-- The draft with its three processes.
abbrev named : Draft
named =
    with_process
    (with_process (with_process (empty std_kinds) (codes "Read") (spec_of kinds.ReadLines)) (codes "Pass") (spec_of kinds.Passthru))
    (codes "Write") (spec_of kinds.WriteLines)

-- The only element of the port at a place.
abbrev at : ℕ → End
at place = record { port = place; element = 0 }

-- The draft after each statement.
abbrev with_input : Draft
with_input = given named (at 0) (codes "in.txt")

abbrev with_first : Draft
with_first = joined with_input (at 2) (at 4) None

abbrev with_second : Draft
with_second = joined with_first (at 6) (at 9) None

abbrev with_output : Draft
with_output = given with_second (at 8) (codes "out.txt")

in_name : IsFileName (codes "in.txt")
in_name = plain-name (codes "in.txt") refl

out_name : IsFileName (codes "out.txt")
out_name = plain-name (codes "out.txt") refl

drafted : IsDraft std_kinds first_component (Ok with_output)
drafted = (Ok with_input, (at 0, refl, in_name, refl), (Ok with_first, refl, (Ok with_second, refl, (Ok with_output, (at 8, refl, out_name, refl), refl))))

short : HasShortTexts first_component
short zero d below = omega arith
short (suc zero) d below = tt
short (suc (suc zero)) d below = tt
short (suc (suc (suc zero))) d below = omega arith
short (suc (suc (suc (suc k)))) d below = absurd (omega (arith, below))

-- No text of it is a template.
templates : TemplatesFit first_network
templates = All-nil Fits

-- The first network comes to its plan.
pub planned : ComesTo std_kinds first_component (Ok first_network)
planned = told_is_said std_kinds first_component (Ok first_network) refl short (Ok with_output, drafted, (refl, templates, refl))
