-- The network and the input that are made from a number, ready to run.
use Rattle.std.specs.Prelude.{◌≡◌, ℕ, List, [], length, Some, None, Ok, Err, slice_get}
use Rattle.std.specs.declared.option.Option.{Option}
use Rattle.std.specs.declared.result.Result.{Result}
use Rattle.flow_parse.specs.declared.value.NetText.{NetText}
use Rattle.flow_make.specs.Lines.{text_of}
use Rattle.flow_make.specs.Input.{input_lines}
use Rattle.flow_make.specs.Network.{network_lines}
use Rattle.flow_load.specs.Offers.{AnyKind}
use Rattle.flow_load.specs.Components.{AreLive, GivesAll}
use Rattle.flow_offer.specs.Processes.{IsOfferedPlan}
use Rattle.flow_load.specs.Networks.{Holds}
use Rattle.flow_load.specs.declared.made_job.MadeJob.{MadeJob}
use Rattle.flow_load.specs.declared.stop.Stop.{Stop}
use Rattle.flow_load.specs.declared.stop.Stop.TheVariants.{NoMemory}

-- The input that is made from a number.
abbrev pub made_input : ℕ → List ℕ
made_input number = text_of (input_lines number)

-- There are so many places for parts, and no part in any.
pub record AreNoParts {P : Type 0} (count : ℕ) (parts : List (Option P)) : Type 0 where
  pub many : length parts ≡ count
  pub each : (p : ℕ) (part : Option P) → slice_get parts p ≡ Some part → part ≡ None

-- The made network of this number, ready to run, and how many bytes its input has. It is never refused.
abbrev pub IsMadeJob : ℕ → Result (MadeJob AnyKind) Stop → Type 0
IsMadeJob number (Ok made) = ((text : NetText) × Holds [] (text_of network_lines) text made.job.plan) × IsOfferedPlan [] made.job.plan
    × ((given : List (List ℕ)) × GivesAll made.job.plan (made_input number) given × AreLive [] made.job.plan given made.job.components.items) × (made.bytes ≡ length (made_input number))
IsMadeJob number (Err stop) = stop ≡ NoMemory
