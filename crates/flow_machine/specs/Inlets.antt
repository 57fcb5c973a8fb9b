-- What stands at the inputs of a body.
use Rattle.std.specs.Prelude.{ℕ, Bool, true, false, ◌&&◌, ◌||◌, not, List, [], ◌∷◌, Option, Some, None, is_some, slice_get, if◌then◌else◌}
use Rattle.std.specs.List.{list_all}
use Rattle.flow_model.specs.States.{Input, From, Text, Process}
use Rattle.flow_model.specs.Events.{Look, passes, holds_packet, has_ended, is_released}
use Rattle.flow_machine.specs.declared.inlet.Inlet.{Inlet}
use Rattle.flow_machine.specs.declared.inlet.Inlet.TheVariants as inlets

-- The input of the machine that it is.
abbrev pub input_shown : Inlet → Input
input_shown (inlets.Connection c) = From c
input_shown (inlets.Text text) = Text text.items

-- It is an initial text.
abbrev pub is_text : Inlet → Bool
is_text (inlets.Connection c) = false
is_text (inlets.Text text) = true

-- The connection at an automatic input, if it has one and a packet is there.
abbrev pub signal_source : List Look → Option ℕ → Option ℕ
signal_source looks (Some c) = if passes holds_packet (slice_get looks c) then Some c else None
signal_source looks None = None

-- An idle process watches its automatic input alone where it has one and isn't released, and where it has one and nothing comes at its
-- other inputs any more.
abbrev pub watches_signal : {K : Type 0} → List Look → Process K → Bool
watches_signal channels x = is_some x.signal && (not (is_released channels x) || list_all (has_ended channels) x.inputs)

-- An automatic input, if it has a connection.
abbrev pub signal_input : Option ℕ → List Input
signal_input (Some c) = From c ∷ []
signal_input None = []

-- The inputs that an idle process watches.
abbrev pub watched : {K : Type 0} → List Look → Process K → List Input
watched channels x = if watches_signal channels x then signal_input x.signal else x.inputs
