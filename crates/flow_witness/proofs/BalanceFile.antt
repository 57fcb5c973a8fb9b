-- The value that the network file spells, and its plan, which is the only one.
use Rattle.std.proofs.Common.{◌≡◌, ℕ, List, [], ◌∷◌, map, None, Some, Ok, refl, sym, subst}
use Rattle.std.specs.Prelude.{codes}
use Rattle.std.specs.List.{list_any}
use Rattle.std.specs.Str.{bytes_eq}
use Rattle.std.specs.Str.Lines.{lines}
use Rattle.flow_plan.specs.declared.kind.PortRef.{PortRef}
use Rattle.flow_plan.specs.Network.{Network}
use Rattle.flow_plan.specs.Texts.{IsFileName}
use Rattle.flow_net.specs.declared.draft.End.{End}
use Rattle.flow_parse.specs.declared.form.Form.TheVariants as forms
use Rattle.flow_parse.specs.declared.value.Statement.TheVariants.{Connect, Initial}
use Rattle.flow_parse.specs.declared.value.NetPart.{NetPart}
use Rattle.flow_parse.specs.declared.value.NetText.{NetText}
use Rattle.flow_parse.specs.Files.{says, nothing, LeadsTo, Spells}
use Rattle.flow_flat.specs.declared.fault.ExpandFault.TheVariants as faults
use Rattle.flow_flat.specs.Names.{text_ports}
use Rattle.flow_flat.specs.Faults.{PortPasses, port_test, text_ends}
use Rattle.flow_flat.specs.Texts.{RecursionPasses, InstancePasses, MeaningPasses, fails_if, instance_test, deep_instances, all_instances, all_statements, TextComesTo}
use Rattle.flow_flat.specs.Firsts.{AllPass}
use Rattle.flow_catalogue.specs.Kinds.{std_kinds_of}
use Rattle.flow_load.specs.Networks.{Holds}
use Rattle.flow_load.proofs.MadeLines.{Saying, header, connects, connects_element, gives_kinded, lead}
use Rattle.flow_load.proofs.Networks.{holds-standard, one-plan}
use Rattle.flow_load.proofs.Passing.{all_pass, all_ok}
use Rattle.flow_witness.specs.Complete.{network_bytes, balance}
use Rattle.flow_witness.proofs.BalancePlan.{templates}
use Rattle.flow_witness.proofs.FileNames.{plain-name}

-- A port that is named without an element, and an element of one.
abbrev alone : List ℕ → PortRef
alone name = record { name = name; element = None }

abbrev numbered : List ℕ → ℕ → PortRef
numbered name number = record { name = name; element = Some number }

-- What the file says.
abbrev balance_part : NetPart
balance_part = record {
  processes = (codes "R", codes "ReadLines") ∷ (codes "L", codes "LoadBalance") ∷ (codes "A", codes "Discard") ∷ (codes "B", codes "Discard") ∷ [];
  statements =
      Initial (codes "x") (codes "R") (alone (codes "FILE"))
      ∷ Connect (codes "R") (alone (codes "OUT")) None (codes "L") (alone (codes "IN"))
      ∷ Connect (codes "L") (numbered (codes "OUT") 0) None (codes "A") (alone (codes "IN"))
      ∷ Connect (codes "L") (numbered (codes "OUT") 1) None (codes "B") (alone (codes "IN"))
      ∷ [];
}

-- The value has no subnets.
abbrev pub balance_value : NetText
balance_value = record { version = 1; subnets = []; main = balance_part }

-- The lines behind the header, with what they say.
abbrev balance_lines : List Saying
balance_lines =
    gives_kinded (codes "x") (codes "FILE") (codes "R") (codes "ReadLines") refl
    ∷ connects (codes "R") (codes "OUT") (codes "IN") (codes "L") (codes "LoadBalance") refl refl
    ∷ connects_element (codes "L") (codes "OUT") (codes "0") (codes "IN") (codes "A") (codes "Discard") refl refl
    ∷ connects_element (codes "L") (codes "OUT") (codes "1") (codes "IN") (codes "B") (codes "Discard") refl refl
    ∷ []

cut : lines network_bytes ≡ codes "flow 1" ∷ map (λ (l : Saying). l.line) balance_lines
cut = refl

led : LeadsTo 1 None (codes "flow 1" ∷ map (λ (l : Saying). l.line) balance_lines) (Ok balance_value)
led = (says (forms.Header 1), header, lead 2 (nothing 1) balance_lines (Ok balance_value) refl refl refl)

spelled : Spells network_bytes balance_value
spelled = subst (λ (l : List (List ℕ)). LeadsTo 1 None l (Ok balance_value)) (sym cut) led

-- No process is a subnet inside itself.
ends : AllPass RecursionPasses (deep_instances balance_value)
ends = all_ok (λ before x. fails_if (list_any (bytes_eq x.kind) x.inside) (faults.Recursive x.kind)) (deep_instances balance_value) refl

-- Each process is of a kind that the file may name.
instances : AllPass (InstancePasses balance_value (std_kinds_of 1)) (all_instances balance_value)
instances = all_ok (instance_test balance_value (std_kinds_of 1)) (all_instances balance_value) refl

input_name : IsFileName (codes "x")
input_name = plain-name (codes "x") refl

-- The only element of the port at a place.
abbrev at : ℕ → End
at place = record { port = place; element = 0 }

-- Each statement may follow those before it.
statements : AllPass (MeaningPasses (std_kinds_of 1) balance_value) (all_statements balance_value)
statements = all_pass (MeaningPasses (std_kinds_of 1) balance_value) (all_statements balance_value) ((at 0, refl, input_name), (refl, (refl, (refl, tt))))

-- Each port is bound as it has to be.
ports : AllPass (PortPasses (std_kinds_of 1) balance_part) (text_ports (std_kinds_of 1) balance_part.processes)
ports = all_ok (port_test balance_part.processes (text_ends (std_kinds_of 1) balance_part)) (text_ports (std_kinds_of 1) balance_part.processes) refl

comes : TextComesTo (std_kinds_of 1) balance_value (Ok balance)
comes = record { said = record { processes = record { ends = ends; processes = instances }; statements = statements }; ports = ports; sum = refl; templates = templates; is = refl }

-- The network file holds this value with this plan.
pub holds : Holds [] network_bytes balance_value balance
holds = holds-standard network_bytes balance_value balance spelled comes

-- It holds no other plan.
pub only_plan : (text : NetText) (plan : Network) → Holds [] network_bytes text plan → plan ≡ balance
only_plan text plan is = one-plan [] network_bytes text balance_value plan balance is holds
