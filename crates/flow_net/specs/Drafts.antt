-- What a builder holds: the processes so far with all their ports, and the connections so far.
use Rattle.flow_limits.specs.declared.TheConstants.{LAST_ELEMENT}
use Rattle.std.specs.Prelude.{◌≡◌, ℕ, zero, suc, ◌==◌, ◌&&◌, nat_le, if◌then◌else◌, Bool, true, false, List, [], ◌∷◌, slice_set, Option, Some, None, Ok, Err, slice_get, position}
use Rattle.std.specs.declared.result.Result.{Result}
use Rattle.std.specs.Option.{option_and_then}
use Rattle.std.specs.Str.{bytes_eq}
use Rattle.flow_net.specs.declared.draft.End.{End}
use Rattle.flow_net.specs.declared.draft.Binding.{Binding}
use Rattle.flow_net.specs.declared.draft.Binding.TheVariants.{Free, Receives, Sends, Given}
use Rattle.flow_net.specs.declared.draft.DraftPort.{DraftPort}
use Rattle.flow_net.specs.declared.draft.DraftProcess.{DraftProcess}
use Rattle.flow_net.specs.declared.draft.Link.{Link}
use Rattle.flow_net.specs.declared.fault.PlanFault.{PlanFault}
use Rattle.flow_net.specs.declared.fault.PlanStop.{PlanStop}
use Rattle.flow_net.specs.declared.fault.PlanStop.TheVariants.{Fault, NoMemory}
use Rattle.flow_plan.specs.declared.kind.KindSpec.{KindSpec}
use Rattle.flow_plan.specs.Network.{is_stream}

-- The kinds that there are, the processes and their ports in the order of the calls, and the connections in the order in which they were first named.
pub record Draft : Type 0 where
  pub kinds : List KindSpec
  pub processes : List DraftProcess
  pub ports : List DraftPort
  pub links : List Link

infixl 10 ◌>>=◌
-- One test and then the next: the first fault is the answer.
abbrev pub ◌>>=◌ : {A B : Type 0} → Result A PlanFault → (A → Result B PlanFault) → Result B PlanFault
(Ok a) >>= f = f a
(Err fault) >>= f = Err fault

-- What a call answers is this value or this fault, unless there is no memory.
abbrev pub Answers : {X : Type 0} → Result X PlanFault → Result X PlanStop → Type 0
Answers answer (Ok x) = answer ≡ Ok x
Answers answer (Err (Fault fault)) = answer ≡ Err fault
Answers answer (Err NoMemory) = Unit {0}

-- What a call answers is what it makes of the draft or the fault, unless there is no memory. Where it isn't Ok the draft stays.
abbrev pub Becomes : Result Draft PlanFault → Result (Unit {0}) PlanStop → Draft → Draft → Type 0
Becomes answer (Ok _) old new = answer ≡ Ok new
Becomes answer (Err (Fault fault)) old new = (answer ≡ Err fault) × (new ≡ old)
Becomes answer (Err NoMemory) old new = new ≡ old

-- This fault where the test holds.
abbrev pub refused_if : Bool → PlanFault → Result (Unit {0}) PlanFault
refused_if test fault = if test then Err fault else Ok tt

-- The list with the element at this place changed by a function.
abbrev pub updated : {X : Type 0} → (X → X) → List X → ℕ → List X
updated f [] i = []
updated f (x ∷ xs) zero = f x ∷ xs
updated f (x ∷ xs) (suc i) = x ∷ updated f xs i

-- What an element is bound to.
abbrev pub binding_at : List DraftPort → End → Option Binding
binding_at ports end = option_and_then (λ (port : DraftPort). slice_get port.elements end.element) (slice_get ports end.port)

-- The ports with an element bound to this.
abbrev pub bound : List DraftPort → End → Binding → List DraftPort
bound ports end binding = updated (λ (port : DraftPort). record port { elements = slice_set port.elements end.element binding }) ports end.port

-- Nothing stands at the element.
abbrev pub is_free : Binding → Bool
is_free Free = true
is_free (Receives c) = false
is_free (Sends c k) = false
is_free (Given k) = false

-- A text stands at the element.
abbrev pub is_given : Binding → Bool
is_given (Given k) = true
is_given Free = false
is_given (Receives c) = false
is_given (Sends c k) = false

-- The connection that an input receives from.
abbrev pub receives : Binding → Option ℕ
receives (Receives c) = Some c
receives Free = None
receives (Sends c k) = None
receives (Given k) = None

-- The two are alike.
abbrev pub same : Bool → Bool → Bool
same true true = true
same false false = true
same true false = false
same false true = false

-- A port on this side of this process.
abbrev pub is_side : ℕ → Bool → DraftPort → Bool
is_side process input port = (port.process == process) && same port.input input

-- The number of the process of this name.
abbrev pub process_named : List DraftProcess → List ℕ → Option ℕ
process_named processes name = position (λ (begun : DraftProcess). bytes_eq begun.name name) processes

-- The place of the port of this name, on this side of this process.
abbrev pub port_named : List DraftPort → ℕ → Bool → List ℕ → Option ℕ
port_named ports process input name = position (λ (port : DraftPort). is_side process input port && bytes_eq port.spec.name name) ports

-- The element that a port is asked for: of an array the one that is written, or 0; every other port has none to write.
abbrev pub element_named : Bool → Option ℕ → Option ℕ
element_named true None = Some 0
element_named true (Some e) = if nat_le e LAST_ELEMENT then Some e else None
element_named false None = Some 0
element_named false (Some e) = None

-- The port carries packets.
abbrev pub is_stream_port : Option DraftPort → Bool
is_stream_port None = false
is_stream_port (Some port) = is_stream port.spec.class

-- The class of an element's port is Stream.
abbrev pub is_stream_at : List DraftPort → End → Bool
is_stream_at ports end = is_stream_port (slice_get ports end.port)
