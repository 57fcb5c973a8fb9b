-- When a call has to draw.
use Rattle.std.specs.Prelude.{◌≡◌, ◌⊎◌, ◌≤◌, ℕ, List, ◌++◌, length, slice_get, Some, None}
use Rattle.std.specs.declared.option.Option.{Option}
use Rattle.flow_limits.specs.declared.TheConstants.{FILE_LIMIT}
use Rattle.flow_text.specs.Edge.{Name, Logged, Rose}
use Rattle.flow_plan.specs.Network.{Network}
use Rattle.flow_plan.specs.declared.kind.KindSpec.{KindSpec}
use Rattle.flow_parse.specs.declared.value.NetText.{NetText}
use Rattle.flow_load.specs.Networks.{Holds}
use Rattle.flow_load.specs.Valid.{GaveAt, IsValidReplay}
use Rattle.flow_load.specs.declared.stop.Stop.TheVariants.{NoMemory}
use Rattle.flow_draw.specs.Words.{Asked, asked_in_call}
use Rattle.flow_draw.specs.Draws.{Call}
use Rattle.flow_draw.specs.declared.status.DrawStatus.{DrawStatus}
use Rattle.flow_draw.specs.declared.status.DrawStatus.TheVariants.{Drawn, Stopped}

-- The file at this place is that of a journal, which is read behind the network file where one is named.
abbrev pub IsJournalAt : Option Name → ℕ → Type 0
IsJournalAt keeps place = (place ≡ 1) × ((kept : Name) × (keeps ≡ Some kept))

-- What the files gave that were read, in order, is valid: the network file holds a value with a plan; no file but a journal's gave more than the limit; and what
-- was read besides, where a journal's file is named, is valid with that network for a replay without tapes.
pub record AreValid (own : List KindSpec) (keeps : Option Name) (read : List Logged) : Type 0 where
  pub network : (net : List ℕ) → GaveAt read 0 net → (text : NetText) × (plan : Network) × Holds own net text plan
  pub short : (place : ℕ) (file : Logged) → slice_get read place ≡ Some file → (IsJournalAt keeps place → ⊥) → length file.bytes ≤ FILE_LIMIT
  pub replay : (kept : Name) (net : List ℕ) (text : NetText) (plan : Network) → keeps ≡ Some kept → GaveAt read 0 net → Holds own net text plan
      → IsValidReplay own None read plan

-- The words ask for a drawing, and what was read is valid, whatever that was.
abbrev pub IsValid : Call → Type 0
IsValid c = (asked : Asked) × (asked_in_call c.words ≡ Some asked)
    × ((read : List Logged) → c.after.opened ≡ c.before.opened ++ read → AreValid c.own asked.journal read)

-- No count of faults rose.
pub record NoFaults (c : Call) : Type 0 where
  pub reads : Rose c.before.read_faults c.after.read_faults → ⊥
  pub prints : Rose c.out.write_faults c.out_after.write_faults → ⊥

-- Where no count of faults rose and all that was read is valid, the drawing was printed, or memory was wanting.
abbrev pub IsComplete : Call → DrawStatus → Type 0
IsComplete c status = NoFaults c → IsValid c → (status ≡ Drawn) ⊎ (status ≡ Stopped NoMemory)
