-- What a network of standard components means: streams on its connections of which each process makes what its kind means. Nothing
-- here speaks of turns or states. (This project's own.)
use Rattle.std.specs.Prelude.{◌≡◌, ℕ, ◌<◌, List, [], map, filter, length, replicate, Option, Some, None, slice_get, unwrap_or, option_and_then}
use Rattle.std.specs.List.{range_with_len}
use Rattle.flow_packet.specs.Tree.{Tree}
use Rattle.flow_component.specs.Runs.{text_packet}
use Rattle.flow_catalogue.specs.declared.standard.Std.{Std}
use Rattle.flow_catalogue.specs.Std.{std_shape, written_of, std_rules}
use Rattle.flow_model.specs.States.{Input, From, Text, is_sender, Process, State}
use Rattle.flow_plan.specs.declared.plan.Sender.{Sender}
use Rattle.flow_model.specs.Schedules.{Journal, Leads}
use Rattle.flow_model.specs.Plans.{input_at, sends_at, start_of, StartsWell}
use Rattle.flow_plan.specs.Network.{Network as Plan}
use Rattle.flow_plan.specs.declared.plan.Process.{Process as PlanProcess}
use Rattle.flow_model.specs.Verdicts.{IsFinished}
use Rattle.flow_meanings.specs.Meaning.{greatest, activations}
use Rattle.flow_meanings.specs.Means.{IsFirst, Means, is_looper}

-- A packet on a connection: whose it is, and its content.
pub record Sending : Type 0 where
  pub sender : Sender
  pub content : Tree

-- How many packets come at this input by its connection. By an initial text none do.
abbrev pub coming : (ℕ → List Sending) → Input → Option ℕ
coming on (From c) = Some (length (on c))
coming on (Text text) = None

-- How often a process with these inputs is activated, which runs this component.
abbrev pub activated : Std → (ℕ → List Sending) → List Input → ℕ
activated component on inputs = activations (is_looper component) (greatest (map (coming on) inputs))

-- The inputs of process p of the plan.
abbrev pub inputs_of : Plan → ℕ → PlanProcess → List Input
inputs_of plan p x = map (input_at plan p x) (range_with_len 0 x.inputs)

-- The stream that arrives at an input of a process that is activated so often: all that is on its connection, or its initial text, once in each activation.
abbrev pub arriving : (ℕ → List Sending) → ℕ → Input → List Tree
arriving on times (From c) = map (λ sending. sending.content) (on c)
arriving on times (Text text) = replicate times (text_packet text)

-- The stream that leaves an output: what is its own on its connection. Nothing leaves where there is none.
abbrev pub leaving : (ℕ → List Sending) → Sender → Option ℕ → List Tree
leaving on sender (Some c) = map (λ sending. sending.content) (filter (λ sending. is_sender sending.sender sender) (on c))
leaving on sender None = []

-- All components are in their first states.
abbrev pub AreFirst : List Std → Type 0
AreFirst components = (p : ℕ) (component : Std) → slice_get components p ≡ Some component → IsFirst component

-- The network means these bytes, by process: its components, one for each process, are in their first states; there are streams on its connections, each made of
-- packets of the connection's senders alone, which they send at their components' own outputs; each process with its component makes of what arrives what its kind makes of it; and none has written anything but
-- those that write a file.
pub record Composes (plan : Plan) (components : List Std) (wrote : ℕ → List ℕ) : Type 0 where
  pub one_each : length components ≡ length plan.processes
  pub first : AreFirst components
  pub on : ℕ → List Sending
  pub senders : (c k : ℕ) (sending : Sending) → slice_get (on c) k ≡ Some sending → sends_at plan sending.sender.process sending.sender.output ≡ Some c
  pub own : (c k : ℕ) (sending : Sending) (component : Std) → slice_get (on c) k ≡ Some sending → slice_get components sending.sender.process ≡ Some component → sending.sender.output < (std_shape component).outputs
  pub each : (p : ℕ) (x : PlanProcess) (component : Std) → slice_get plan.processes p ≡ Some x → slice_get components p ≡ Some component
      → Means component (wrote p) (λ i. arriving on (activated component on (inputs_of plan p x)) (input_at plan p x i)) (λ o. leaving on (record { process = p; output = o }) (sends_at plan p o))
  pub others : (p : ℕ) (component : Std) → slice_get components p ≡ Some component → written_of component ≡ None → wrote p ≡ []

-- What a process has written.
abbrev pub wrote_in : State Std → ℕ → List ℕ
wrote_in s p = unwrap_or (option_and_then (λ (x : Process Std). written_of x.component) (slice_get s.kept.processes p)) []

-- Whatever the schedule, where a network of standard components has finished, its writers have written what it means.
abbrev pub FinishedComposes : Type 0
FinishedComposes =
    (plan : Plan) (components : List Std) (journal : Journal) (s : State Std) → StartsWell std_rules plan components → AreFirst components → Leads std_rules (start_of plan components) journal s → IsFinished s
    → Composes plan components (wrote_in s)
