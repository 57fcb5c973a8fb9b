-- The connections at outputs.
use Rattle.std.specs.Prelude.{ℕ, List, Option, slice_get, option_and_then, option_map, length, nat_lt, if◌then◌else◌}
use Rattle.flow_model.specs.States.{Outlet, outlets_from}
use Rattle.flow_model.specs.declared.Stage.{Stage}
use Rattle.flow_model.specs.declared.Stage.TheVariants as stages

-- The connection at an output, if the output is there and has one.
abbrev pub output_in : List (Option ℕ) → ℕ → Option ℕ
output_in outputs port = option_and_then (λ (connection : Option ℕ). connection) (slice_get outputs port)

-- The connection of the outlet at a place, if there is one.
abbrev pub connection_at : List Outlet → ℕ → Option ℕ
connection_at outlets place = option_map (λ (outlet : Outlet). outlet.connection) (slice_get outlets place)

-- A process with these outputs closes its connected output at a place, or has ended where there is none.
abbrev pub closing_in : List (Option ℕ) → ℕ → Stage
closing_in outputs place = if nat_lt place (length (outlets_from 0 outputs)) then stages.Closing place else stages.Ended
