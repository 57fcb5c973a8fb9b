-- What giving a text to an input makes of the draft.
use Rattle.std.specs.Prelude.{◌≡◌, ◌⊎◌, ℕ, List, Ok, Err, slice_get}
use Rattle.std.specs.declared.result.Result.{Result}
use Rattle.flow_net.specs.declared.draft.End.{End}
use Rattle.flow_net.specs.declared.fault.PlanFault.TheVariants.{BadOption}
use Rattle.flow_net.specs.declared.fault.PlanStop.{PlanStop}
use Rattle.flow_net.specs.declared.fault.PlanStop.TheVariants.{Fault, NoMemory}
use Rattle.flow_plan.specs.declared.kind.PortRef.{PortRef}
use Rattle.flow_net.specs.Drafts.{Draft}
use Rattle.flow_net.specs.Calls.{input_for, given}
use Rattle.flow_net.specs.Options.{FitsPort}

-- The input is there and unbound, but the text isn't of its class.
abbrev pub Unfit : Draft → List ℕ → List ℕ → PortRef → Type 0
Unfit draft text to into = (input : End) × (input_for draft.processes draft.ports to into ≡ Ok input) × (FitsPort (slice_get draft.ports input.port) text → ⊥)

-- A text is given exactly where its input is there and unbound and the text is of its class; the first of these that fails is the fault.
abbrev pub AfterInitial : Draft → List ℕ → List ℕ → PortRef → Result (Unit {0}) PlanStop → Draft → Type 0
AfterInitial old text to into (Ok _) new = (input : End) × (input_for old.processes old.ports to into ≡ Ok input) × FitsPort (slice_get old.ports input.port) text × (new ≡ given old input text)
AfterInitial old text to into (Err (Fault fault)) new = ((input_for old.processes old.ports to into ≡ Err fault) ⊎ ((fault ≡ BadOption to into) × Unfit old text to into)) × (new ≡ old)
AfterInitial old text to into (Err NoMemory) new = new ≡ old
