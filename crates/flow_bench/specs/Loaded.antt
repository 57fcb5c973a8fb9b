-- A standard component that works a while on each packet that comes.
use Rattle.std.specs.Prelude.{◌≡◌, ℕ, Bool}
use Rattle.flow_packet.specs.Held.{Held}
use Rattle.flow_component.specs.declared.Answer.{Answer}
use Rattle.flow_component.specs.declared.Shape.{Shape}
use Rattle.flow_component.specs.Laws.{Rules, Outcome}
use Rattle.flow_component.specs.Outcomes.{outcome_as}
use Rattle.flow_catalogue.specs.declared.standard.Std.{Std}
use Rattle.flow_catalogue.specs.Std.{std_shape, std_uses, StdReady, std_next}
use Rattle.flow_bench.specs.declared.race.loaded.Loaded.{Loaded}

-- The standard component with so many rounds of work on a packet, which came to this sum.
abbrev pub loaded_as : ℕ → ℕ → Std → Loaded
loaded_as rounds sum component = record { component = component; rounds = rounds; sum = sum }

-- Its shape, the outputs that it uses, and what it is ready for are the standard component's.
abbrev pub loaded_shape : Loaded → Shape
loaded_shape loaded = std_shape loaded.component

abbrev pub loaded_uses : Loaded → ℕ → Bool
loaded_uses loaded = std_uses loaded.component

abbrev pub LoadedReady : Loaded → Held → Answer → Type 0
LoadedReady loaded held answer = StdReady loaded.component held answer

-- It comes to what the standard component comes to, with some sum.
abbrev pub LoadedNext : Loaded → Held → Answer → Outcome Loaded → Type 0
LoadedNext loaded held answer outcome = (sum : ℕ) × (outcome ≡ outcome_as (loaded_as loaded.rounds sum) (std_next loaded.component held answer))

-- All that a network knows of it.
abbrev pub loaded_rules : Rules Loaded
loaded_rules = record { shape = loaded_shape; uses = loaded_uses; ready = LoadedReady; next = LoadedNext }
