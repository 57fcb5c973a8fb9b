-- That the made network has a plan, and what its processes read.
use Rattle.std.specs.Prelude.{◌≡◌, ◌≢◌, ℕ, suc, [], ◌∷◌, Some, Ok, slice_get, codes}
use Rattle.std.specs.declared.result.Result.{Result}
use Rattle.flow_make.specs.Lines.{text_of}
use Rattle.flow_make.specs.Network.{network_lines}
use Rattle.flow_plan.specs.declared.plan.Process.{Process}
use Rattle.flow_plan.specs.Network.{Network}
use Rattle.flow_parse.specs.declared.fault.NetFault.{NetFault}
use Rattle.flow_parse.specs.declared.value.NetText.{NetText}
use Rattle.flow_parse.specs.declared.value.TheConstants.{FIRST_VERSION}
use Rattle.flow_parse.specs.Files.{Spells}
use Rattle.flow_flat.specs.declared.fault.ExpandFault.{ExpandFault}
use Rattle.flow_flat.specs.Texts.{TextComesTo}
use Rattle.flow_flat.specs.Laws.{FileComesToNetwork}
use Rattle.flow_catalogue.specs.Kinds.{std_kinds_of}

-- The text spells a value, which has a plan over the standard kinds that a file of its version may name.
abbrev pub HasPlan : Type 0
HasPlan = (text : NetText) × ((plan : Network) × Spells (text_of network_lines) text × TextComesTo (std_kinds_of text.version) text (Ok plan))

-- Whatever the text, which is of the first version, comes to, it is a plan: no line of it has a fault, and its network has none.
abbrev pub IsNeverRefused : Type 0
IsNeverRefused = (outcome : Result (Result Network ExpandFault) NetFault) → FileComesToNetwork (std_kinds_of FIRST_VERSION) (text_of network_lines) outcome → (plan : Network) × (outcome ≡ Ok (Ok plan))

-- Of the processes of a plan the first reads the file `in`, and no other reads a file.
pub record OnlyFirstReads (plan : Network) : Type 0 where
  pub first : Process
  pub there : slice_get plan.processes 0 ≡ Some first
  pub kind : first.kind ≡ codes "ReadLines"
  pub file : first.options ≡ (0, codes "in") ∷ []
  pub others : (p : ℕ) (process : Process) → slice_get plan.processes (suc p) ≡ Some process → process.kind ≢ codes "ReadLines"

-- This holds of the plan of the text.
abbrev pub ReadsItsInput : Type 0
ReadsItsInput = (text : NetText) (plan : Network) → Spells (text_of network_lines) text → TextComesTo (std_kinds_of text.version) text (Ok plan) → OnlyFirstReads plan
