-- The shapes and ports of components that have one input or one output.
use Rattle.std.specs.Prelude.{ℕ, ◌==◌, Bool, false}
use Rattle.flow_component.specs.declared.Port.{Port}
use Rattle.flow_component.specs.declared.Shape.{Shape}
use Rattle.flow_component.specs.declared.Wish.{Wish}
use Rattle.flow_component.specs.declared.Wish.TheVariants as wishes

-- The input or output with the number 0.
abbrev pub first_port : Port
first_port = record { 0 = 0 }

-- The wish to receive from the first input.
abbrev pub receive_first : Wish
receive_first = wishes.Receive first_port

-- The wish to send a packet to the first output.
abbrev pub send_first : ℕ → Wish
send_first id = wishes.Send first_port id

-- No input, and one output.
abbrev pub none_to_one : Shape
none_to_one = record { inputs = 0; outputs = 1 }

-- One input, and no output.
abbrev pub one_to_none : Shape
one_to_none = record { inputs = 1; outputs = 0 }

-- One input and one output.
abbrev pub one_to_one : Shape
one_to_one = record { inputs = 1; outputs = 1 }

-- The first output alone is used.
abbrev pub uses_first : ℕ → Bool
uses_first port = port == 0

-- No output is used.
abbrev pub uses_none : ℕ → Bool
uses_none port = false
