-- The outer names that lines of a subnet have given so far.
use Rattle.std.specs.Prelude.{ℕ, List, Option, Bool, false, is_some}
use Rattle.flow_parse.specs.declared.value.Statement.{Statement}
use Rattle.flow_parse.specs.declared.value.Statement.TheVariants.{Connect, Initial, InPort, OutPort}

-- The outer name of a line is among those of inputs, or of outputs, by the places that they have there.
abbrev pub is_among : (List ℕ → Option ℕ) → (List ℕ → Option ℕ) → Statement → Bool
is_among inputs outputs (InPort outer to into) = is_some (inputs outer)
is_among inputs outputs (OutPort from out outer) = is_some (outputs outer)
is_among inputs outputs (Connect from out capacity to into) = false
is_among inputs outputs (Initial text to into) = false
