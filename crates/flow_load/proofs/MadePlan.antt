-- The plan of the made network.
use Rattle.flow_limits.specs.declared.TheConstants.{TEXT_LIMIT}
use Rattle.std.proofs.Common.{◌≡◌, ◌≢◌, ℕ, zero, suc, true, false, List, [], ◌∷◌, Ok, refl, arith}
use Rattle.std.specs.Prelude.{codes}
use Rattle.std.specs.List.{All, list_any}
use Rattle.std.specs.Str.{bytes_eq, IsUtf8}
use Rattle.std.proofs.lemmas.List.Elements.{All-nil}
use lib.Utf8.{encode}
use Rattle.flow_plan.specs.declared.kind.PortClass.{PortClass}
use Rattle.flow_plan.specs.declared.kind.PortClass.TheVariants.{Stream, Number, File}
use Rattle.flow_plan.specs.declared.plan.Process.{Process}
use Rattle.flow_plan.specs.declared.plan.Connection.{Connection}
use Rattle.flow_plan.specs.declared.plan.PortRow.{PortRow}
use Rattle.flow_plan.specs.declared.plan.PortTable.{PortTable}
use Rattle.flow_plan.specs.Network.{Network}
use Rattle.flow_plan.specs.Texts.{IsFileName, IsNumberWithin}
use Rattle.flow_plan.specs.Templates.{Fits, TemplatesFit}
use Rattle.flow_net.specs.declared.draft.End.{End}
use Rattle.flow_flat.specs.declared.fault.ExpandFault.TheVariants as faults
use Rattle.flow_flat.specs.Names.{text_ports}
use Rattle.flow_flat.specs.Faults.{PortPasses, port_test, text_ends, sum_test}
use Rattle.flow_flat.specs.Plans.{plan_of}
use Rattle.flow_flat.specs.Texts.{RecursionPasses, InstancePasses, MeaningPasses, fails_if, instance_test, deep_instances, all_instances, all_statements, TextComesTo}
use Rattle.flow_flat.specs.Firsts.{AllPass}
use Rattle.flow_catalogue.specs.Kinds.{std_kinds_of}
use Rattle.flow_load.proofs.Passing.{all_pass, all_ok}
use Rattle.flow_load.proofs.MadeValue.{made_part, made_value}

-- No process is a subnet inside itself.
ends : AllPass RecursionPasses (deep_instances made_value)
ends = all_ok (λ before x. fails_if (list_any (bytes_eq x.kind) x.inside) (faults.Recursive x.kind)) (deep_instances made_value) refl

-- Each process is of a kind of the table.
instances : AllPass (InstancePasses made_value (std_kinds_of 1)) (all_instances made_value)
instances = all_ok (instance_test made_value (std_kinds_of 1)) (all_instances made_value) refl

-- Each text that is given to a port is of its class.
in_file : IsFileName (codes "in")
unfolding encode
in_file = (omega arith, omega arith, (codes "in", (refl, refl)), nonzero) where
  nonzero : All (λ b. b ≢ 0) (codes "in")
  nonzero zero d below is = absurd (omega (arith, is))
  nonzero (suc zero) d below is = absurd (omega (arith, is))
  nonzero (suc (suc k)) d below is = absurd (omega (arith, below))

-- A file whose name is one letter.
one_letter : (b : ℕ) → IsUtf8 (b ∷ []) → b ≢ 0 → IsFileName (b ∷ [])
one_letter b utf8 some = (omega arith, omega arith, utf8, nonzero) where
  nonzero : All (λ c. c ≢ 0) (b ∷ [])
  nonzero zero d below is = some is
  nonzero (suc k) d below is = absurd (omega (arith, below))

file_a : IsFileName (codes "a")
unfolding encode
file_a = one_letter 97 (codes "a", (refl, refl)) (λ e. omega (arith, e))

file_b : IsFileName (codes "b")
unfolding encode
file_b = one_letter 98 (codes "b", (refl, refl)) (λ e. omega (arith, e))

file_c : IsFileName (codes "c")
unfolding encode
file_c = one_letter 99 (codes "c", (refl, refl)) (λ e. omega (arith, e))

twenty : IsNumberWithin 1 TEXT_LIMIT (codes "20")
twenty = (((omega arith, (omega arith, (omega arith, tt))), λ h. absurd (omega (arith, h))), omega arith, omega arith)

sixty : IsNumberWithin 1 TEXT_LIMIT (codes "60")
sixty = (((omega arith, (omega arith, (omega arith, tt))), λ h. absurd (omega (arith, h))), omega arith, omega arith)

-- The only element of the port at a place.
abbrev at : ℕ → End
at place = record { port = place; element = 0 }

-- Each statement may follow those before it.
statements : AllPass (MeaningPasses (std_kinds_of 1) made_value) (all_statements made_value)
statements = all_pass (MeaningPasses (std_kinds_of 1) made_value) (all_statements made_value) (
  (at 0, refl, in_file),
  (refl, (refl, (refl, (refl, (refl, ((at 12, refl, twenty), ((at 17, refl, sixty), (refl, (refl, (refl, ((at 27, refl, file_a), ((at 31, refl, file_b), ((at 35, refl, file_c), tt))))))))))))),
)

-- Each port is bound as it has to be.
ports : AllPass (PortPasses (std_kinds_of 1) made_part) (text_ports (std_kinds_of 1) made_part.processes)
ports = all_ok (port_test made_part.processes (text_ends (std_kinds_of 1) made_part)) (text_ports (std_kinds_of 1) made_part.processes) refl

sum : sum_test (plan_of (std_kinds_of 1) made_part).connections ≡ Ok tt
sum = refl

-- A port that has to be bound, and isn't an array.
abbrev plain_row : List ℕ → PortClass → PortRow
plain_row name class = record { spec = record { name = name; class = class; array = false; needed = true }; elements = 1 }

-- A connection from an output to input 0 of another process.
abbrev link : ℕ → ℕ → ℕ → Connection
link sender output receiver = record { receiver = receiver; input = 0; capacity = 10; senders = record { process = sender; output = output } ∷ [] }

-- The table of a Fill, and that of a writer.
abbrev filling : PortTable
filling = record { inputs = plain_row (codes "SIZE") (Number 1 TEXT_LIMIT) ∷ plain_row (codes "IN") Stream ∷ []; outputs = plain_row (codes "OUT") Stream ∷ [] }

abbrev writing : PortTable
writing = record { inputs = plain_row (codes "FILE") File ∷ plain_row (codes "IN") Stream ∷ []; outputs = [] }

-- The process that reads the file.
abbrev pub reader : Process
reader = record { name = codes "Read"; kind = codes "ReadLines"; options = (0, codes "in") ∷ []; initials = []; inputs = 0; outputs = 1 }

-- The processes behind it.
abbrev pub others : List Process
others =
    record { name = codes "Words"; kind = codes "Words"; options = []; initials = []; inputs = 1; outputs = 1 }
    ∷ record { name = codes "Copy"; kind = codes "Copy"; options = []; initials = []; inputs = 1; outputs = 3 }
    ∷ record { name = codes "Narrow"; kind = codes "Fill"; options = (0, codes "20") ∷ []; initials = []; inputs = 1; outputs = 1 }
    ∷ record { name = codes "Wide"; kind = codes "Fill"; options = (0, codes "60") ∷ []; initials = []; inputs = 1; outputs = 1 }
    ∷ record { name = codes "Count"; kind = codes "Count"; options = []; initials = []; inputs = 1; outputs = 2 }
    ∷ record { name = codes "A"; kind = codes "WriteLines"; options = (0, codes "a") ∷ []; initials = []; inputs = 1; outputs = 0 }
    ∷ record { name = codes "B"; kind = codes "WriteLines"; options = (0, codes "b") ∷ []; initials = []; inputs = 1; outputs = 0 }
    ∷ record { name = codes "C"; kind = codes "WriteLines"; options = (0, codes "c") ∷ []; initials = []; inputs = 1; outputs = 0 }
    ∷ []

-- The plan.
abbrev pub made_plan : Network
made_plan = record {
  processes = reader ∷ others;
  connections = link 0 0 1 ∷ link 1 0 2 ∷ link 2 0 3 ∷ link 2 1 4 ∷ link 2 2 5 ∷ link 3 0 6 ∷ link 4 0 7 ∷ link 5 1 8 ∷ [];
  tables =
      record { inputs = plain_row (codes "FILE") File ∷ []; outputs = plain_row (codes "OUT") Stream ∷ [] }
      ∷ record { inputs = plain_row (codes "IN") Stream ∷ []; outputs = plain_row (codes "OUT") Stream ∷ [] }
      ∷ record { inputs = plain_row (codes "IN") Stream ∷ []; outputs = record { spec = record { name = codes "OUT"; class = Stream; array = true; needed = true }; elements = 3 } ∷ [] }
      ∷ filling
      ∷ filling
      ∷ record {
        inputs = plain_row (codes "IN") Stream ∷ [];
        outputs = record { spec = record { name = codes "OUT"; class = Stream; array = false; needed = false }; elements = 1 } ∷ plain_row (codes "COUNT") Stream ∷ [];
      }
      ∷ writing
      ∷ writing
      ∷ writing
      ∷ [];
}

planned : made_plan ≡ plan_of (std_kinds_of 1) made_part
planned = refl

-- No text of it is a template.
templates : TemplatesFit made_plan
templates = All-nil Fits

-- The value comes to this plan.
pub comes : TextComesTo (std_kinds_of 1) made_value (Ok made_plan)
comes = record { said = record { processes = record { ends = ends; processes = instances }; statements = statements }; ports = ports; sum = sum; templates = templates; is = planned }
