-- The options of a process, by the names of their ports.
use Rattle.std.specs.Prelude.{◌≡◌, ℕ, ◌-◌, ◌^◌, ◌≤◌, false, List, Option, Some, None, SomeIff, position, slice_get}
use Rattle.std.specs.Option.{option_and_then}
use Rattle.std.specs.Str.{bytes_eq}
use Rattle.flow_text.specs.Text.{number_of}
use Rattle.flow_plan.specs.declared.kind.KindSpec.{KindSpec}
use Rattle.flow_plan.specs.declared.kind.PortSpec.{PortSpec}
use Rattle.flow_plan.specs.Network.{is_stream}
use Rattle.flow_plan.specs.Texts.{IsNumberWithin}
use Rattle.flow_catalogue.specs.Rows.{option_at}

-- A process for which a part is wanted: its kind, and its options by the places of their ports.
pub record Wanted : Type 0 where
  pub kind : KindSpec
  pub options : List (ℕ × List ℕ)

-- The place of the port of this name.
abbrev pub port_place : List PortSpec → List ℕ → Option ℕ
port_place ports name = position (λ (port : PortSpec). bytes_eq port.name name) ports

-- The text that the option port of this name is given, if there is such a port and it is given one.
abbrev pub option_named : Wanted → List ℕ → Option (List ℕ)
option_named wanted name = option_and_then (λ place. option_at place wanted.options) (port_place wanted.kind.inputs name)

-- The port of this name is this one, and an option port.
pub record IsOptionNamed (ports : List PortSpec) (name : List ℕ) (port : PortSpec) : Type 0 where
  pub place : ℕ
  pub placed : port_place ports name ≡ Some place
  pub there : slice_get ports place ≡ Some port
  pub takes_text : is_stream port.class ≡ false

-- What is told of a text as a number: the number below 2^64 that it spells in plain decimal digits, and none where it spells none.
abbrev pub IsNumberOf : Option (List ℕ) → Option ℕ → Type 0
IsNumberOf None number = number ≡ None
IsNumberOf (Some text) number = SomeIff number (IsNumberWithin 0 (2 ^ 64 - 1) text) (number_of text)

-- What is told of an option port for numbers within these bounds: a number within them, or none where the port isn't needed.
abbrev pub IsNumberGiven : PortSpec → ℕ → ℕ → Option ℕ → Type 0
IsNumberGiven port least most None = port.needed ≡ false
IsNumberGiven port least most (Some number) = (least ≤ number) × (number ≤ most)
