-- What holds of every draft.
use Rattle.flow_limits.specs.declared.TheConstants.{CAPACITY_LIMIT, CONNECTION_LIMIT, ELEMENT_LIMIT, PORT_LIMIT, PROCESS_LIMIT, SENDER_LIMIT, TEXT_LIMIT}
use Rattle.std.specs.Prelude.{◌≡◌, ◌⊎◌, ℕ, ◌*◌, ◌<◌, ◌≤◌, codes, if◌then◌else◌, Bool, true, false, List, [], ◌∷◌, map, length, take, Option, Some, slice_get}
use Rattle.std.specs.List.{sum_by}
use Rattle.std.specs.Option.{option_and_then, option_map}
use Rattle.flow_net.specs.declared.draft.End.{End}
use Rattle.flow_net.specs.declared.draft.Binding.TheVariants.{Receives, Sends, Given}
use Rattle.flow_net.specs.declared.draft.DraftPort.{DraftPort}
use Rattle.flow_net.specs.declared.draft.DraftProcess.{DraftProcess}
use Rattle.flow_net.specs.declared.draft.Link.{Link}
use Rattle.flow_plan.specs.declared.kind.KindSpec.{KindSpec}
use Rattle.flow_plan.specs.declared.kind.PortSpec.{PortSpec}
use Rattle.flow_plan.specs.declared.kind.PortClass.TheVariants.{Stream}
use Rattle.flow_plan.specs.Network.{is_stream}
use Rattle.flow_net.specs.Drafts.{Draft, binding_at, is_side, is_stream_at}
use Rattle.flow_net.specs.Calls.{process_at, room_of, takes_text}
use Rattle.flow_net.specs.Kinds.{automatic, all_inputs, all_outputs, takes_texts}
use Rattle.flow_net.specs.Options.{FitsPort}
use Rattle.flow_net.specs.Over.{carries}

-- What a builder rests on of a kind: an input takes texts, an array is needed, an option port is no array, and there are few of them.
pub record IsKind (kind : KindSpec) : Type 0 where
  pub take_texts : (i : ℕ) (spec : PortSpec) → slice_get kind.inputs i ≡ Some spec → takes_texts spec ≡ true
  pub single_options : (i : ℕ) (spec : PortSpec) → slice_get kind.inputs i ≡ Some spec → is_stream spec.class ≡ false → spec.array ≡ false
  pub arrays_needed : (i : ℕ) (spec : PortSpec) → slice_get kind.outputs i ≡ Some spec → spec.array ≡ true → spec.needed ≡ true
  pub few_inputs : length kind.inputs ≤ PORT_LIMIT
  pub few_outputs : length kind.outputs ≤ PORT_LIMIT

-- A port of one of this many processes: an input takes texts or is the automatic one, an array is needed, an option port is no array, and an output carries packets.
pub record IsPort (processes : ℕ) (port : DraftPort) : Type 0 where
  pub process : port.process < processes
  pub room : length port.elements ≡ room_of port.spec.array
  pub input : port.input ≡ true → (takes_texts port.spec ≡ true) ⊎ (port.spec ≡ automatic (codes "*IN"))
  pub array : port.spec.array ≡ true → port.spec.needed ≡ true
  pub single : is_stream port.spec.class ≡ false → port.spec.array ≡ false
  pub output : port.input ≡ false → port.spec.class ≡ Stream

-- The element into which a connection leads.
abbrev pub into_of : List Link → ℕ → Option End
into_of links c = option_map (λ (link : Link). link.into) (slice_get links c)

-- An element that a port may have.
pub record IsPlaced (ports : List DraftPort) (end : End) : Type 0 where
  pub port : end.port < length ports
  pub element : end.element < ELEMENT_LIMIT

-- The sender of a connection at a place.
abbrev pub sender_at : List Link → ℕ → ℕ → Option End
sender_at links c k = option_and_then (λ (link : Link). slice_get link.senders k) (slice_get links c)

-- The text of a process at a place, with its element.
abbrev pub text_at : List DraftProcess → ℕ → ℕ → Option (End × List ℕ)
text_at processes p k = option_and_then (λ (begun : DraftProcess). slice_get begun.texts k) (slice_get processes p)

-- An element is bound to a connection exactly where the connection names it, and to a text exactly where its process has the text.
pub record IsListed (ports : List DraftPort) (processes : List DraftProcess) (links : List Link) : Type 0 where
  pub receives : (end : End) (c : ℕ) → binding_at ports end ≡ Some (Receives c) → into_of links c ≡ Some end
  pub received : (end : End) (c : ℕ) → into_of links c ≡ Some end → binding_at ports end ≡ Some (Receives c)
  pub sends : (end : End) (c k : ℕ) → binding_at ports end ≡ Some (Sends c k) → sender_at links c k ≡ Some end
  pub sent : (end : End) (c k : ℕ) → sender_at links c k ≡ Some end → binding_at ports end ≡ Some (Sends c k)
  pub has : (end : End) (k : ℕ) → binding_at ports end ≡ Some (Given k) → option_map (λ (text : End × List ℕ). text.0) (text_at processes (process_at ports end) k) ≡ Some end
  pub given : (p k : ℕ) (end : End) (text : List ℕ) → text_at processes p k ≡ Some (end, text) → (binding_at ports end ≡ Some (Given k)) × (process_at ports end ≡ p)

-- The side of an element's port.
abbrev pub is_input_at : List DraftPort → End → Option Bool
is_input_at ports end = option_map (λ (port : DraftPort). port.input) (slice_get ports end.port)

-- Inputs receive and are given texts of their class, but for the automatic ones, and outputs send.
pub record IsSided (ports : List DraftPort) (processes : List DraftProcess) (links : List Link) : Type 0 where
  pub into : (c : ℕ) (end : End) → into_of links c ≡ Some end → (is_input_at ports end ≡ Some true) × (is_stream_at ports end ≡ true)
  pub sender : (c k : ℕ) (end : End) → sender_at links c k ≡ Some end → is_input_at ports end ≡ Some false
  pub text : (p k : ℕ) (end : End) (text : List ℕ) → text_at processes p k ≡ Some (end, text) → (is_input_at ports end ≡ Some true) × FitsPort (slice_get ports end.port) text × (length text ≤ TEXT_LIMIT) × (takes_text ports end ≡ true)

-- What a connection may have: a capacity from 1 to CAPACITY_LIMIT, and up to SENDER_LIMIT senders.
pub record IsLink (link : Link) : Type 0 where
  pub capacity : (n : ℕ) → link.capacity ≡ Some n → (1 ≤ n) × (n ≤ CAPACITY_LIMIT)
  pub senders : length link.senders ≤ SENDER_LIMIT

-- 1 for a port on this side of this process, and 0 for another.
abbrev pub on_side : ℕ → Bool → DraftPort → ℕ
on_side process input port = if is_side process input port then 1 else 0

-- The entries of the ports on one side of a process, in order.
abbrev pub entries_of : List DraftPort → ℕ → Bool → List PortSpec
entries_of [] process input = []
entries_of (port ∷ ports) process input = if is_side process input port then port.spec ∷ entries_of ports process input else entries_of ports process input

-- Process p has the ports of a kind of this name of the table, on each side and in order, and the automatic one behind them.
pub record HasKindPorts (kinds : List KindSpec) (ports : List DraftPort) (p : ℕ) (called : List ℕ) : Type 0 where
  pub place : ℕ
  pub kind : KindSpec
  pub here : slice_get kinds place ≡ Some kind
  pub name : called ≡ kind.name
  pub inputs : entries_of ports p true ≡ all_inputs kind.inputs
  pub outputs : entries_of ports p false ≡ map carries (all_outputs kind.outputs)

-- Each process has the ports of its kind, and the place of a port is the number of the ports before it on its side of its process.
pub record IsShaped (kinds : List KindSpec) (processes : List DraftProcess) (ports : List DraftPort) : Type 0 where
  pub each : (p : ℕ) (begun : DraftProcess) → slice_get processes p ≡ Some begun → HasKindPorts kinds ports p begun.kind
  pub places : (g : ℕ) (port : DraftPort) → slice_get ports g ≡ Some port → port.place ≡ sum_by (on_side port.process port.input) (take g ports)

-- What holds of every draft.
pub record IsSound (draft : Draft) : Type 0 where
  pub kinds : (k : ℕ) (kind : KindSpec) → slice_get draft.kinds k ≡ Some kind → IsKind kind
  pub few_processes : length draft.processes ≤ PROCESS_LIMIT
  pub few_ports : length draft.ports ≤ 8194 * length draft.processes
  pub few_links : length draft.links ≤ CONNECTION_LIMIT
  pub numbers : (p : ℕ) (begun : DraftProcess) → slice_get draft.processes p ≡ Some begun → begun.number ≡ p
  pub names : (p q : ℕ) (begun other : DraftProcess) → slice_get draft.processes p ≡ Some begun → slice_get draft.processes q ≡ Some other → begun.name ≡ other.name → p ≡ q
  pub ports : (g : ℕ) (port : DraftPort) → slice_get draft.ports g ≡ Some port → IsPort (length draft.processes) port
  pub links : (c : ℕ) (link : Link) → slice_get draft.links c ≡ Some link → IsLink link
  pub listed : IsListed draft.ports draft.processes draft.links
  pub sided : IsSided draft.ports draft.processes draft.links
  pub shaped : IsShaped draft.kinds draft.processes draft.ports
