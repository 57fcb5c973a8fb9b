-- What reading a network file does to the shelf.
use Rattle.std.specs.Prelude.{ℕ, List, [], ◌∷◌, Ok, Err}
use Rattle.std.specs.declared.result.Result.{Result}
use Rattle.flow_text.specs.Edge.{Outside, Name}
use Rattle.flow_plan.specs.Network.{Network}
use Rattle.flow_plan.specs.declared.kind.KindSpec.{KindSpec}
use Rattle.flow_parse.specs.declared.value.NetText.{NetText}
use Rattle.flow_load.specs.Step.{OnlyReads, whole}
use Rattle.flow_load.specs.Components.{StopsAtFile}
use Rattle.flow_load.specs.Reads.{IsFile}
use Rattle.flow_load.specs.declared.stop.Stop.{Stop}
use Rattle.flow_load.specs.declared.stop.Stop.TheVariants.{Refused}
use Rattle.flow_draw.specs.Causes.{IsRefused}

-- It was read whole, and nothing but it, and this is its plan; or it is refused, or a read of it stopped.
abbrev pub Loads : List KindSpec → Outside → Outside → Name → Result Network Stop → Type 0
Loads own old new name (Ok plan) = (net : List ℕ) × (text : NetText) × OnlyReads old new (whole (name, net) ∷ []) × IsFile own old.files name net text plan
Loads own old new name (Err (Refused refusal)) = IsRefused own old new name refusal
Loads own old new name (Err stop) = StopsAtFile old new [] name stop
