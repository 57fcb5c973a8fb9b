-- Which connection stands at each port of the processes of a plan.
use Rattle.std.specs.Prelude.{◌≡◌, ℕ, ◌+◌, Bool, true, false, List, [], ◌∷◌, map, Option, Some, slice_get, slice_set, get_or}
use Rattle.std.specs.List.{range_with_len}
use Rattle.flow_plan.specs.declared.plan.Process.{Process}
use Rattle.flow_plan.specs.declared.plan.Sender.{Sender}
use Rattle.flow_model.specs.States.{Input}
use Rattle.flow_model.specs.Plans.{text_at, connected_or}

-- The number of inputs of a process, or of its outputs, the automatic one among them.
abbrev pub ports_of : Bool → Process → ℕ
ports_of true x = x.inputs + 1
ports_of false x = x.outputs + 1

-- A row for each process has at each of its ports what stands there.
abbrev pub AreRows : Bool → List Process → (ℕ → ℕ → Option ℕ) → List (List (Option ℕ)) → Type 0
AreRows input processes at rows = (p : ℕ) (x : Process) → slice_get processes p ≡ Some x → slice_get rows p ≡ Some (map (at p) (range_with_len 0 (ports_of input x)))

-- The rows with a connection noted at a port of process p.
abbrev pub noted : List (List (Option ℕ)) → ℕ → ℕ → ℕ → List (List (Option ℕ))
noted rows p port c = slice_set rows p (slice_set (get_or rows p []) port (Some c))

-- The rows with a connection noted at each output that sends to it.
abbrev pub all_noted : List (List (Option ℕ)) → List Sender → ℕ → List (List (Option ℕ))
all_noted rows [] c = rows
all_noted rows (s ∷ senders) c = all_noted (noted rows s.process s.output c) senders c

-- What stands at the inputs of a process from input i on, that receive from these connections, if they do: the connections, and else the initial texts.
abbrev pub inputs_from : List (ℕ × List ℕ) → ℕ → List (Option ℕ) → List Input
inputs_from initials i [] = []
inputs_from initials i (c ∷ cs) = connected_or (text_at initials i) c ∷ inputs_from initials (i + 1) cs
