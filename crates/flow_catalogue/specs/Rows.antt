-- The rows of the table of kinds: their ports as they are spelled in Morrison's diagrams, and what a process of a row has.
use Rattle.flow_limits.specs.declared.TheConstants.{ELEMENT_LIMIT, TEXT_LIMIT}
use Rattle.std.specs.Prelude.{◌≡◌, ◌==◌, ℕ, zero, suc, ◌+◌, ◌≤◌, ◌&&◌, if◌then◌else◌, nat_le, Bool, true, false, List, [], ◌∷◌, map, length, Option, Some, None, find, option_map, slice_get}
use Rattle.std.specs.List.{list_all, list_any, range_with_len}
use Rattle.flow_plan.specs.declared.kind.PortClass.{PortClass}
use Rattle.flow_plan.specs.declared.kind.PortClass.TheVariants.{Stream, Template}
use Rattle.flow_plan.specs.declared.kind.PortSpec.{PortSpec}
use Rattle.flow_plan.specs.declared.kind.KindSpec.{KindSpec}
use Rattle.flow_plan.specs.Network.{is_stream}
use Rattle.flow_net.specs.Over.{carries}
use Rattle.flow_plan.specs.Texts.{IsOfClass, IsTemplateFor}

-- A port that takes one text before the network runs.
abbrev pub option_port : List ℕ → PortClass → PortSpec
option_port name class = record { name = name; class = class; array = false; needed = true }

-- A port that takes one text before the network runs, or none.
abbrev pub optional_option_port : List ℕ → PortClass → PortSpec
optional_option_port name class = record { name = name; class = class; array = false; needed = false }

-- A port for packets that has to be connected.
abbrev pub stream_port : List ℕ → PortSpec
stream_port name = record { name = name; class = Stream; array = false; needed = true }

-- A port for packets with elements, of which there is one at least.
abbrev pub array_port : List ℕ → PortSpec
array_port name = record { name = name; class = Stream; array = true; needed = true }

-- An output that may be left open.
abbrev pub optional_port : List ℕ → PortSpec
optional_port name = record { name = name; class = Stream; array = false; needed = false }

-- How many numbered ports: a fixed number, or as many as an array has elements. Of a side with an array beside other ports nothing is said.
pub data Count : Type 0 where
  Exactly : (number : ℕ) → Count
  Elements : Count
  Unsaid : Count

-- Such a count is this number. An array has 1 to ELEMENT_LIMIT elements.
abbrev pub IsCount : Count → ℕ → Type 0
IsCount (Exactly number) n = n ≡ number
IsCount Elements n = (1 ≤ n) × (n ≤ ELEMENT_LIMIT)
IsCount Unsaid n = Unit {0}

-- An option port has no number, an array one for each element, and every other port one.
abbrev pub count_of : PortSpec → Count
count_of spec = if is_stream spec.class then (if spec.array then Elements else Exactly 1) else Exactly 0

-- The ports of both.
abbrev pub together : Count → Count → Count
together (Exactly m) (Exactly n) = Exactly (m + n)
together (Exactly zero) Elements = Elements
together (Exactly (suc m)) Elements = Unsaid
together Elements (Exactly zero) = Elements
together Elements (Exactly (suc n)) = Unsaid
together Elements Elements = Unsaid
together Elements Unsaid = Unsaid
together (Exactly m) Unsaid = Unsaid
together Unsaid other = Unsaid

-- The numbered ports of one side of a row.
abbrev pub count_on : List PortSpec → Count
count_on [] = Exactly 0
count_on (spec ∷ specs) = together (count_of spec) (count_on specs)

-- The text that the option port at this place of the row is given, if it is given one.
abbrev pub option_at : ℕ → List (ℕ × List ℕ) → Option (List ℕ)
option_at place options = option_map (λ (option : ℕ × List ℕ). option.1) (find (λ (option : ℕ × List ℕ). option.0 == place) options)

-- What an option port may be given: a text of its class, or none where it isn't needed.
abbrev pub IsGiven : PortSpec → Option (List ℕ) → Type 0
IsGiven spec None = spec.needed ≡ false
IsGiven spec (Some text) = IsOfClass spec.class text

-- An option port stands at this place of a row.
abbrev pub IsOptionPlace : List PortSpec → ℕ → Type 0
IsOptionPlace specs place = (spec : PortSpec) × (slice_get specs place ≡ Some spec) × (is_stream spec.class ≡ false)

-- The options of a process whose row has these inputs: each option port is given what it may be, only option ports are given texts, each no longer than a packet's may be, and none is given two; and a template is one for its pattern.
pub record HasOptions (specs : List PortSpec) (options : List (ℕ × List ℕ)) : Type 0 where
  pub each : (place : ℕ) (spec : PortSpec) → slice_get specs place ≡ Some spec → is_stream spec.class ≡ false → IsGiven spec (option_at place options)
  pub only : (k place : ℕ) (text : List ℕ) → slice_get options k ≡ Some (place, text) → IsOptionPlace specs place
  pub short : (k place : ℕ) (text : List ℕ) → slice_get options k ≡ Some (place, text) → length text ≤ TEXT_LIMIT
  pub templates : (place pattern : ℕ) (spec : PortSpec) (text : List ℕ) → slice_get specs place ≡ Some spec → spec.class ≡ Template pattern → option_at place options ≡ Some text → IsTemplateFor (option_at pattern options) text
  pub once : (k l place : ℕ) (text other : List ℕ) → slice_get options k ≡ Some (place, text) → slice_get options l ≡ Some (place, other) → k ≡ l

-- Which of a process's outputs have to be connected: those of an array all, of other ports those that are needed.
abbrev pub needs : List PortSpec → ℕ → List Bool
needs specs n = if list_any (λ spec. spec.array) specs then map (λ (_ : ℕ). true) (range_with_len 0 n) else map (λ spec. spec.needed) specs

-- An array is the only port on its side, and needed; each output is one for packets.
abbrev pub has_plain_outputs : List PortSpec → Bool
has_plain_outputs specs = if list_any (λ spec. spec.array) specs then (nat_le (length specs) 1 && list_all (λ (spec : PortSpec). spec.needed) specs) else true

-- What holds of each row of the table.
abbrev pub is_plain : KindSpec → Bool
is_plain kind = has_plain_outputs (map carries kind.outputs)
