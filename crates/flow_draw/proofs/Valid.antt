-- Where no count of faults rose and all that was read is valid, a call draws, or memory is wanting.
use Rattle.std.proofs.Common.{◌≡◌, ℕ, List, [], ◌∷◌, ◌++◌, length, Some, inl, inr, arith, refl, ap, subst}
use Rattle.std.specs.Prelude.{string_bytes, map, ◌⊎◌}
use Rattle.std.specs.declared.option.Option.{Option}
use Rattle.flow_text.specs.Edge.{Outside, Name, Files, Logged, Rose}
use Rattle.flow_plan.specs.declared.kind.KindSpec.{KindSpec}
use Rattle.flow_component.specs.Laws.{AtMostOneOutcome}
use Rattle.flow_model.specs.Plans.{start_of}
use Rattle.flow_journal.specs.Files.{HasJournalOrFault}
use Rattle.flow_journal.specs.Replays.{schedule_of, StopsAreNoSchedules}
use Rattle.flow_journal.specs.declared.refusal.Refusal.{Refusal as NoTurn}
use Rattle.flow_load.specs.Step.{Filled, OnlyReads, whole, partly}
use Rattle.flow_load.specs.Offers.{net_rules}
use Rattle.flow_load.specs.Components.{inputs_of}
use Rattle.flow_load.specs.declared.stop.NetRefusal.{NetRefusal}
use Rattle.flow_load.specs.declared.stop.JournalRefusal.TheVariants.{Byte, Turn}
use Rattle.flow_load.specs.declared.stop.TapesRefusal.TheVariants as tapes_refusals
use Rattle.flow_load.specs.declared.stop.Stop.{Stop}
use Rattle.flow_load.specs.declared.stop.Stop.TheVariants.{Words, Refused, NoPart, JournalRefused, TapesRefused, ReadFault, WriteFault, TooLong, NoMemory}
use Rattle.flow_load.proofs.Networks.{holds-or-refused}
use Rattle.flow_load.proofs.Readings.{get-last}
use Rattle.flow_draw.specs.Causes.{IsFaulty, IsLimitedNext, IsNoSchedule, IsRefused, IsTooLong, IsUntaped, StopsFor}
use Rattle.flow_draw.specs.Complete.{AreValid, IsJournalAt, IsValid, NoFaults}
use Rattle.flow_draw.specs.Draws.{Call, Ends, HasCause}
use Rattle.flow_draw.specs.Words.{Asked, asked_in_call}
use Rattle.flow_draw.specs.declared.status.DrawStatus.{DrawStatus}
use Rattle.flow_draw.specs.declared.status.DrawStatus.TheVariants.{Drawn, Unwritten, Stopped}

-- a file that has a limit isn't that of a journal
limited-at : (own : List KindSpec) (told : Option Files) (name : Name) (keeps : Option Name) (earlier : List Filled) (read : Name) → IsLimitedNext own told name keeps earlier read
    → IsJournalAt keeps (length (map whole earlier)) → ⊥
limited-at own told name keeps earlier read (inl next) at = omega (arith, at.0, ap (λ (l : List Filled). length (map whole l)) next.1)
limited-at own told name keeps earlier read (inr next) at = omega (arith, at.0, ap (λ (l : List Filled). length (map whole l)) next.earlier_are)

module _ (own : List KindSpec) (old new : Outside) (name : Name) (keeps : Option Name) (valid : (read : List Logged) → new.opened ≡ old.opened ++ read → AreValid own keeps read) where
  -- what was read is valid
  all-valid : (read : List Logged) → OnlyReads old new read → AreValid own keeps read
  all-valid read only = valid read (ap (λ (o : Outside). o.opened) only)

  no-refusal : (refusal : NetRefusal) → IsRefused own old new name refusal → ⊥
  no-refusal refusal c =
      let v = all-valid (whole (name, c.net) ∷ []) c.shelf in
      let has = v.network c.net (name, refl) in
      holds-or-refused own c.net has.0 has.1 refusal has.2 c.refused

  no-fault : HasJournalOrFault → (place : ℕ) → IsFaulty own old new name keeps place → ⊥
  no-fault apart place c =
      let v = all-valid (whole (name, c.net) ∷ c.given ∷ []) c.shelf in
      let replay = v.replay c.kept c.net c.text c.plan c.keeps_is (name, refl) c.file.holds in
      let begins = replay.journal c.given refl in
      apart (c.given.bytes ++ begins.0) begins.2.0 place begins.2.1 (c.shows.fault begins.0 begins.1)

  -- a network with processes of the caller's own is not valid where a journal is named
  no-own : (count : ℕ) → IsUntaped own old new name keeps count → ⊥
  no-own count c =
      let v = all-valid (whole (name, c.net) ∷ []) c.shelf in
      c.has_own (v.replay c.kept c.net c.text c.plan c.keeps_is (name, refl) c.file.holds).tapes_are

  no-stop : AtMostOneOutcome net_rules → StopsAreNoSchedules net_rules → (place p : ℕ) (refusal : NoTurn)
      → IsNoSchedule own old new name keeps place p refusal → ⊥
  no-stop one no_schedule place p refusal c =
      let r = c.ready in
      let v = all-valid (map whole ((name, r.net) ∷ (((c.kept, c.bytes) ∷ []) ++ inputs_of c.plan.processes c.given))) r.reads in
      let replay = v.replay c.kept r.net r.text c.plan c.keeps_is (name, refl) r.file.holds in
      let leads = replay.schedule c.bytes c.tells [] c.given c.components (c.kept, refl) c.is_journal.is refl refl c.are_components in
      no_schedule one (start_of c.plan c.components) (schedule_of c.tells) place p refusal leads.0 c.stops leads.1

  -- a file that the call reads isn't too long
  not-too-long : (read : Name) → IsTooLong own old new name keeps read → ⊥
  not-too-long read c =
      let more = c.shelf in
      let v = all-valid (map whole c.earlier ++ partly more.0 read ∷ []) more.2 in
      let at = get-last (map whole c.earlier) (partly more.0 read) in
      let few = v.short (length (map whole c.earlier)) (partly more.0 read) at (limited-at own old.files name keeps c.earlier read c.next) in
      let many = more.1 in
      omega (arith, few, many)

  valid-stop : AtMostOneOutcome net_rules → StopsAreNoSchedules net_rules → HasJournalOrFault → (Rose old.read_faults new.read_faults → ⊥)
      → (stop : Stop) → StopsFor own old new name keeps stop → stop ≡ NoMemory
  valid-stop one no_schedule apart reads NoMemory c = refl
  valid-stop one no_schedule apart reads (ReadFault read) c = absurd (reads c.shelf.rose)
  valid-stop one no_schedule apart reads (Refused refusal) c = absurd (no-refusal refusal c)
  valid-stop one no_schedule apart reads (JournalRefused (Byte place)) c = absurd (no-fault apart place c)
  valid-stop one no_schedule apart reads (JournalRefused (Turn place process refusal)) c =
      absurd (no-stop one no_schedule place process refusal c)
  valid-stop one no_schedule apart reads (TooLong read) c = absurd (not-too-long (string_bytes read) c)
  valid-stop one no_schedule apart reads Words c = absurd c
  valid-stop one no_schedule apart reads (NoPart process) c = absurd c
  valid-stop one no_schedule apart reads (TapesRefused (tapes_refusals.Count count)) c = absurd (no-own count c)
  valid-stop one no_schedule apart reads (TapesRefused (tapes_refusals.Byte place)) c = absurd c
  valid-stop one no_schedule apart reads (WriteFault written) c = absurd c

-- Where words ask for one drawing, a cause is one of that.
module _ (one : AtMostOneOutcome net_rules) (no_schedule : StopsAreNoSchedules net_rules) (apart : HasJournalOrFault) (c : Call)
    (faults : NoFaults c) (valid : IsValid c) where
  stop-of : (asked : Asked) → asked_in_call c.words ≡ Some asked → (stop : Stop) → StopsFor c.own c.before c.after asked.net asked.journal stop → stop ≡ NoMemory
  stop-of asked asks stop s =
      let same : valid.0 ≡ asked = (let h = valid.1 in cc) in
      valid-stop c.own c.before c.after asked.net asked.journal
      (subst (λ (a : Asked). (read : List Logged) → c.after.opened ≡ c.before.opened ++ read → AreValid c.own a.journal read) same valid.2)
      one no_schedule apart faults.reads stop s

  cause-of : (stop : Stop) → HasCause c.own c.words c.before c.after stop → stop ≡ NoMemory
  cause-of Words s = (let h = valid.1 in let g = s.0 in absurd cc)
  cause-of NoMemory s = refl
  cause-of (ReadFault read) s = stop-of s.0 s.1 (ReadFault read) s.2
  cause-of (Refused refusal) s = stop-of s.0 s.1 (Refused refusal) s.2
  cause-of (NoPart process) s = absurd s.2
  cause-of (TapesRefused refusal) s = stop-of s.0 s.1 (TapesRefused refusal) s.2
  cause-of (JournalRefused refusal) s = stop-of s.0 s.1 (JournalRefused refusal) s.2
  cause-of (TooLong read) s = stop-of s.0 s.1 (TooLong read) s.2
  cause-of (WriteFault written) s = stop-of s.0 s.1 (WriteFault written) s.2

  pub complete : (status : DrawStatus) → Ends c status → (status ≡ Drawn) ⊎ (status ≡ Stopped NoMemory)
  complete Drawn ends = inl refl
  complete Unwritten ends = absurd (faults.prints ends.2.1.rose)
  complete (Stopped stop) ends = inr (ap Stopped (cause-of stop ends.0))
