-- Why a call draws nothing: each cause, once. Beside the standard kinds there are those of the caller's own.
use Rattle.std.specs.Prelude.{◌≡◌, ◌≢◌, ◌⊎◌, ℕ, List, [], ◌∷◌, ◌++◌, map, Some, string_bytes}
use Rattle.std.specs.declared.option.Option.{Option}
use Rattle.flow_limits.specs.declared.TheConstants.{FILE_LIMIT}
use Rattle.flow_text.specs.Edge.{Outside, Name, Files, Logged}
use Rattle.flow_plan.specs.Network.{Network}
use Rattle.flow_plan.specs.declared.kind.KindSpec.{KindSpec}
use Rattle.flow_parse.specs.declared.value.NetText.{NetText}
use Rattle.flow_model.specs.Plans.{start_of}
use Rattle.flow_journal.specs.Replays.{schedule_of, StopsAtTurn}
use Rattle.flow_journal.specs.declared.merge.Journal.{Journal}
use Rattle.flow_journal.specs.declared.refusal.Refusal.{Refusal as NoTurn}
use Rattle.flow_offer.specs.Processes.{own_processes}
use Rattle.flow_load.specs.Step.{Filled, OnlyReads, FailsToRead, MayRead, Unended, IsRead, GivesMore, HoldsMore, whole}
use Rattle.flow_load.specs.Offers.{AnyKind, net_rules}
use Rattle.flow_load.specs.Components.{AreComponents, IsNext}
use Rattle.flow_load.specs.Networks.{RefusedFor}
use Rattle.flow_load.specs.Reads.{IsFile, IsJournalFile, IsReady, ShowsFault}
use Rattle.flow_load.specs.declared.stop.NetRefusal.{NetRefusal}
use Rattle.flow_load.specs.declared.stop.JournalRefusal.TheVariants.{Byte, Turn}
use Rattle.flow_load.specs.declared.stop.TapesRefusal.TheVariants as tapes_refusals
use Rattle.flow_load.specs.declared.stop.Stop.{Stop}
use Rattle.flow_load.specs.declared.stop.Stop.TheVariants.{Words, Refused, NoPart, JournalRefused, TapesRefused, ReadFault, WriteFault, TooLong, NoMemory}

-- The network file of this name was read whole, and nothing but it; and it is refused for this.
pub record IsRefused (own : List KindSpec) (old new : Outside) (name : Name) (refusal : NetRefusal) : Type 0 where
  pub net : List ℕ
  pub read : IsRead old.files FILE_LIMIT (name, net)
  pub refused : RefusedFor own net refusal
  pub shelf : OnlyReads old new (whole (name, net) ∷ [])

-- The network file was read whole, and then that of the journal as far as its fault shows; the byte at this place can't stand in a journal's file, or the file
-- ends there too early.
pub record IsFaulty (own : List KindSpec) (old new : Outside) (name : Name) (keeps : Option Name) (place : ℕ) : Type 0 where
  pub kept : Name
  pub keeps_is : keeps ≡ Some kept
  pub net : List ℕ
  pub text : NetText
  pub plan : Network
  pub file : IsFile own old.files name net text plan
  pub given : Logged
  pub shows : ShowsFault old.files kept given place
  pub shelf : OnlyReads old new (whole (name, net) ∷ given ∷ [])

-- A journal is named, and there are processes of kinds of the caller's own, for which a state needs tapes, and a drawing has none: the network file was read whole, and
-- nothing but it.
pub record IsUntaped (own : List KindSpec) (old new : Outside) (name : Name) (keeps : Option Name) (count : ℕ) : Type 0 where
  pub kept : Name
  pub keeps_is : keeps ≡ Some kept
  pub net : List ℕ
  pub text : NetText
  pub plan : Network
  pub file : IsFile own old.files name net text plan
  pub has_own : own_processes own plan ≢ []
  pub count_is : count ≡ 0
  pub shelf : OnlyReads old new (whole (name, net) ∷ [])

-- All was read, and the journal of the file is no schedule from the start of the network: this is the first of its turns that isn't defined, and why.
pub record IsNoSchedule (own : List KindSpec) (old new : Outside) (name : Name) (keeps : Option Name) (place process : ℕ) (refusal : NoTurn) : Type 0 where
  pub kept : Name
  pub keeps_is : keeps ≡ Some kept
  pub bytes : List ℕ
  pub tells : Journal
  pub is_journal : IsJournalFile old.files kept bytes tells
  pub plan : Network
  pub given : List (List ℕ)
  pub ready : IsReady own old new name ((kept, bytes) ∷ []) plan given
  pub components : List AnyKind
  pub are_components : AreComponents own plan given [] components
  pub stops : StopsAtTurn net_rules (start_of plan components) (schedule_of tells) place process refusal

-- The file `read` is that of a reader of the network, and these are all files before it: the network file, the journal's, and those of the readers before.
pub record IsInputNext (own : List KindSpec) (told : Option Files) (name : Name) (keeps : Option Name) (earlier : List Filled) (read : Name) : Type 0 where
  pub kept : Name
  pub keeps_is : keeps ≡ Some kept
  pub net : List ℕ
  pub text : NetText
  pub plan : Network
  pub file : IsFile own told name net text plan
  pub bytes : List ℕ
  pub journal : Journal
  pub is_journal : IsJournalFile told kept bytes journal
  pub inputs : List Filled
  pub next : IsNext told plan inputs read
  pub earlier_are : earlier ≡ (name, net) ∷ (kept, bytes) ∷ inputs

-- The file `read` is that of the journal, and the network file stands before it.
pub record IsJournalNext (own : List KindSpec) (told : Option Files) (name : Name) (keeps : Option Name) (earlier : List Filled) (read : Name) : Type 0 where
  pub keeps_is : keeps ≡ Some read
  pub net : List ℕ
  pub text : NetText
  pub plan : Network
  pub file : IsFile own told name net text plan
  pub earlier_are : earlier ≡ (name, net) ∷ []

-- The file `read` is the next one behind these that has a limit: the network file first; then, with a journal, those of the network's readers.
abbrev pub IsLimitedNext : List KindSpec → Option Files → Name → Option Name → List Filled → Name → Type 0
IsLimitedNext own told name keeps earlier read = ((read ≡ name) × (earlier ≡ [])) ⊎ IsInputNext own told name keeps earlier read

-- A read of this file failed: it couldn't be opened, or it gave an error before its end. Each file before it was read whole, and none behind it.
pub record IsReadFault (own : List KindSpec) (old new : Outside) (name : Name) (keeps : Option Name) (read : Name) : Type 0 where
  pub earlier : List Filled
  pub next : IsLimitedNext own old.files name keeps earlier read ⊎ IsJournalNext own old.files name keeps earlier read
  pub opened : List Logged
  pub unended : Unended read opened
  pub shelf : FailsToRead old new (map whole earlier ++ opened) read

-- This file gave one byte more than it may have. Each file before it was read whole, and none behind it.
pub record IsTooLong (own : List KindSpec) (old new : Outside) (name : Name) (keeps : Option Name) (read : Name) : Type 0 where
  pub earlier : List Filled
  pub next : IsLimitedNext own old.files name keeps earlier read
  pub more : HoldsMore old.files FILE_LIMIT read
  pub shelf : GivesMore old new (map whole earlier) FILE_LIMIT read

-- Why the drawing of this network file isn't made, of the state to which a journal leads where one is named.
abbrev pub StopsFor : List KindSpec → Outside → Outside → Name → Option Name → Stop → Type 0
StopsFor own old new name keeps (Refused refusal) = IsRefused own old new name refusal
StopsFor own old new name keeps (JournalRefused (Byte place)) = IsFaulty own old new name keeps place
StopsFor own old new name keeps (JournalRefused (Turn place process refusal)) = IsNoSchedule own old new name keeps place process refusal
StopsFor own old new name keeps (ReadFault read) = IsReadFault own old new name keeps (string_bytes read)
StopsFor own old new name keeps (TooLong read) = IsTooLong own old new name keeps (string_bytes read)
StopsFor own old new name keeps NoMemory = MayRead old new
StopsFor own old new name keeps Words = ⊥
StopsFor own old new name keeps (NoPart process) = ⊥
StopsFor own old new name keeps (TapesRefused (tapes_refusals.Count count)) = IsUntaped own old new name keeps count
StopsFor own old new name keeps (TapesRefused (tapes_refusals.Byte place)) = ⊥
StopsFor own old new name keeps (WriteFault written) = ⊥
