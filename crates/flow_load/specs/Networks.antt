-- What a network file holds: a value and its plan, or why it is refused.
use Rattle.std.specs.Prelude.{ℕ, List, Ok, Err, ⊤}
use Rattle.std.specs.declared.result.Result.{Result}
use Rattle.flow_plan.specs.Network.{Network}
use Rattle.flow_plan.specs.declared.kind.KindSpec.{KindSpec}
use Rattle.flow_parse.specs.declared.value.NetText.{NetText}
use Rattle.flow_parse.specs.Files.{Spells, Refused}
use Rattle.flow_flat.specs.Texts.{TextComesTo}
use Rattle.flow_offer.specs.Kinds.{table_of}
use Rattle.flow_offer.specs.Processes.{IsOfferedPlan}
use Rattle.flow_load.specs.declared.stop.NetRefusal.{NetRefusal}
use Rattle.flow_load.specs.declared.stop.NetRefusal.TheVariants as refusals
use Rattle.flow_load.specs.declared.net_file.NetFile.{NetFile}
use Rattle.flow_load.specs.declared.stop.Stop.{Stop}
use Rattle.flow_load.specs.declared.stop.Stop.TheVariants.{Refused as IsRefused, NoMemory}

-- The bytes spell this value, and this is its plan over the standard kinds that a file of its version may name, and these of the caller's own.
pub record Holds (own : List KindSpec) (net : List ℕ) (text : NetText) (plan : Network) : Type 0 where
  pub spelled : Spells net text
  pub comes : TextComesTo (table_of text.version own) text (Ok plan)

-- The bytes are refused: a line has a fault; or they spell a value whose network has one.
abbrev pub RefusedFor : List KindSpec → List ℕ → NetRefusal → Type 0
RefusedFor own net (refusals.Line fault) = Refused net fault
RefusedFor own net (refusals.Network fault) = (text : NetText) × Spells net text × TextComesTo (table_of text.version own) text (Err fault)

-- What reading a network file's bytes answers.
abbrev pub ReadsAs : List KindSpec → List ℕ → Result NetFile Stop → Type 0
ReadsAs own net (Ok file) = Holds own net file.text file.plan × IsOfferedPlan own file.plan
ReadsAs own net (Err (IsRefused refusal)) = RefusedFor own net refusal
ReadsAs own net (Err NoMemory) = ⊤
ReadsAs own net (Err other) = ⊥
