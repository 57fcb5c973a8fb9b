-- What a seat knows.
use Rattle.std.specs.Prelude.{ℕ, [], None, false}
use Rattle.flow_floor.specs.declared.board.Look.{Look}
use Rattle.flow_floor.specs.declared.board.View.{View}

abbrev pub no_look : Look
no_look = record { word = 0; read = 0; holding = false; at = 0 }

-- The view of a worker that has done nothing, with its shares.
abbrev pub newcomer : {K : Type 0} → ℕ → View K
newcomer shares = record { shares = shares; held = None; sending = None; receiving = None; made = []; seen = []; noted = []; spare = 0; read_zero = false; steps = 0; look = no_look; asked = []; readied = [] }
