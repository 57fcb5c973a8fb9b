-- Where no count of faults rose and all that was read is valid, a stop is want of memory.
use Rattle.std.proofs.Common.{◌≡◌, ℕ, ◌+◌, List, [], ◌∷◌, ◌++◌, length, Some, None, inl, inr, arith, refl, sym, ap, ◌∙◌, subst}
use Rattle.std.proofs.lemmas.List.{length-append, length-map}
use Rattle.std.specs.Prelude.{String, string_bytes, map, drop, slice_get}
use Rattle.std.specs.Option.{option_and_then}
use Rattle.std.specs.declared.alloc.Global.{Global}
use Rattle.std.specs.declared.option.Option.{Option}
use Rattle.flow_limits.specs.declared.TheConstants.{FILE_LIMIT}
use Rattle.flow_tape.specs.Faults.{HasTapesOrFault, HasOneList}
use Rattle.flow_text.specs.Edge.{Outside, Name, Files, Logged, Rose}
use Rattle.flow_plan.specs.declared.kind.KindSpec.{KindSpec}
use Rattle.flow_plan.specs.Network.{Network}
use Rattle.flow_words.specs.Words.{Asked, AskedRun, run_of, Replay, command_of}
use Rattle.flow_model.specs.Plans.{start_of}
use Rattle.flow_offer.specs.Processes.{own_processes}
use Rattle.flow_journal.specs.Files.{HasJournalOrFault}
use Rattle.flow_journal.specs.Replays.{schedule_of}
use Rattle.flow_journal.specs.declared.refusal.Refusal.{Refusal as NoTurn}
use Rattle.flow_load.specs.Step.{Filled, OnlyReads, whole, partly}
use Rattle.flow_load.specs.Offers.{Taped, specs_of}
use Rattle.flow_load.specs.Components.{inputs_of}
use Rattle.flow_load.specs.Reads.{Asks, file_of, AreTapes, IsCommand, IsBetween, IsLimitedNext, IsTapesNext, IsInputNext, ReadsBehind}
use Rattle.flow_load.specs.Causes.{Work, IsRefused, IsPartless, IsFaulty, IsNoSchedule, IsTapesFaulty, IsMiscounted, IsTooLong, HasCause}
use Rattle.flow_load.specs.Valid.{IsReplay, IsJournalAt, IsLimitAt, TapesIn, HasTapes, files_behind, AreValid, IsValid}
use Rattle.flow_load.specs.declared.stop.NetRefusal.{NetRefusal}
use Rattle.flow_load.specs.declared.stop.JournalRefusal.TheVariants.{Byte, Turn}
use Rattle.flow_load.specs.declared.stop.TapesRefusal.TheVariants as tapes_refusals
use Rattle.flow_load.specs.declared.stop.Stop.{Stop}
use Rattle.flow_load.specs.declared.stop.Stop.TheVariants.{Words, Refused, NoPart, JournalRefused, TapesRefused, ReadFault, WriteFault, TooLong, NoMemory}
use Rattle.flow_cli.proofs.TopLaws.{Laws}
use Rattle.flow_load.proofs.Befores.{on-file}
use Rattle.flow_load.proofs.Networks.{holds-or-refused}
use Rattle.flow_load.proofs.Readings.{get-last}

no-command : (words : List (String Global)) (name : Name) → command_of (map string_bytes words) ≡ None → IsCommand words name → ⊥
no-command words name none is = let h : option_and_then file_of (command_of (map string_bytes words)) ≡ None = ap (λ c. option_and_then file_of c) none in cc

-- what has no network file is no command on one
no-file : (words : List (String Global)) (name : Name) (asked : Asked) → Asks words asked → file_of asked ≡ None → IsCommand words name → ⊥
no-file words name asked asks none is = let h : option_and_then file_of (command_of (map string_bytes words)) ≡ None = ap (λ c. option_and_then file_of c) asks ∙ none in cc

-- a run is no replay
no-replay : (words : List (String Global)) (asked : AskedRun) → Asks words (run_of asked) → IsReplay words → ⊥
no-replay words asked asks replay = let h = replay.2 in cc

-- a file that is the next one and has a limit isn't that of a journal, and that is its limit
abbrev HasLimitAt : List (String Global) → ℕ → ℕ → Type 0
HasLimitAt words place limit = (IsJournalAt words place → ⊥) × IsLimitAt words place limit

limit-at-first : (words : List (String Global)) (place : ℕ) → place ≡ 0 → HasLimitAt words place FILE_LIMIT
limit-at-first words place first = ((λ at. omega (arith, at.0, first)), inr ((λ at. omega (arith, at.0, first)), refl))

-- the file of tapes that is named there is one more
tapes-behind : (words : List (String Global)) (told : Option Files) (name kept : Name) (tapes : Option Name) (between : List Filled) → Asks words (Replay name kept tapes) → ReadsBehind told kept tapes between
    → (n k t : Name) → Asks words (Replay n k (Some t)) → length between ≡ 2
tapes-behind words told name kept None between asks behind n k t is = absurd (let h = asks in let g = is in cc)
tapes-behind words told name kept (Some named) between asks behind n k t is = ap length behind.between_is ∙ ap (λ (l : List Filled). length ((kept, behind.bytes) ∷ l)) behind.are_tapes.2

limit-at-input : (words : List (String Global)) (told : Option Files) (name : Name) (net : List ℕ) (between inputs : List Filled) → IsBetween words told name between
    → (place : ℕ) → place ≡ 1 + (length between + length inputs) → HasLimitAt words place FILE_LIMIT
limit-at-input words told name net between inputs (inl b) place is = ((λ at. no-replay words b.0 b.1 at.1), inr ((λ at. no-replay words b.0 b.1 (at.1.0, at.1.1, Some at.1.2, at.1.3)), refl))
limit-at-input words told name net between inputs (inr b) place is = (
  (λ at. omega (arith, at.0, is, ap length b.3.between_is)),
  inr ((λ at. omega (arith, at.0, is, tapes-behind words told name b.0 b.1 between b.2 b.3 at.1.0 at.1.1 at.1.2 at.1.3)), refl),
)

limited-at : (own : List KindSpec) (words : List (String Global)) (told : Option Files) (name : Name) (earlier : List Filled) (limit : ℕ) (read : Name) → IsLimitedNext own words told name earlier limit read
    → HasLimitAt words (length (map whole earlier)) limit
limited-at own words told name earlier limit read (inl next) =
    subst (HasLimitAt words (length (map whole earlier))) (sym next.0) (limit-at-first words (length (map whole earlier)) (ap (λ (l : List Filled). length (map whole l)) next.2))
limited-at own words told name earlier limit read (inr (inl next)) = two next.1 (ap (λ (l : List Filled). length (map whole l)) next.1.earlier_are) where
  two : (t : IsTapesNext own words told name earlier read) → length (map whole earlier) ≡ 2 → HasLimitAt words (length (map whole earlier)) limit
  two t is = ((λ at. omega (arith, at.0, is)), inl ((is, (name, t.kept, read, t.asks)), next.0))
limited-at own words told name earlier limit read (inr (inr next)) = at next.1 where
  at : (t : IsInputNext own words told name earlier read) → HasLimitAt words (length (map whole earlier)) limit
  at t =
      let long : length (map whole earlier) ≡ 1 + (length t.between + length t.inputs) =
      omega (arith, length-map earlier whole, ap length t.earlier_are, length-append t.between t.inputs) in
      subst (HasLimitAt words (length (map whole earlier))) (sym next.0) (limit-at-input words told name t.net t.between t.inputs t.is_between (length (map whole earlier)) long)

-- the tapes that were read, and the files behind them
tapes-in : (told : Option Files) (tapes : Option Name) (files : List Filled) (read : List Taped) (a b : Filled) (inputs : List Filled) → AreTapes told tapes files read
    → TapesIn tapes (map whole (a ∷ ((b ∷ files) ++ inputs))) read
tapes-in told None files read a b inputs are = are.1
tapes-in told (Some name) files read a b inputs are =
    (are.0, (name, ap (λ (l : List Filled). slice_get (map whole (a ∷ b ∷ (l ++ inputs))) 2) are.2), are.1.is)

inputs-behind : (told : Option Files) (tapes : Option Name) (files : List Filled) (read : List Taped) (a b : Filled) (inputs : List Filled) → AreTapes told tapes files read
    → files_behind tapes (map whole (a ∷ ((b ∷ files) ++ inputs))) ≡ map whole inputs
inputs-behind told None files read a b inputs are = ap (λ (l : List Filled). map whole (l ++ inputs)) are.0
inputs-behind told (Some name) files read a b inputs are = ap (λ (l : List Filled). drop 3 (map whole (a ∷ b ∷ (l ++ inputs)))) are.2

-- as many tapes as there are processes for them
counted : HasOneList → (own : List KindSpec) (plan : Network) (told : Option Files) (tapes : Option Name) (files : List Filled) (read : List Taped) (a b : Filled) → AreTapes told tapes files read
    → HasTapes own tapes (map whole (a ∷ b ∷ files)) plan → length read ≡ length (own_processes own plan)
counted single own plan told None files read a b are has = ap length are.1 ∙ sym (ap length has)
counted single own plan told (Some name) files read a b are has =
    let is = has are.0 (name, ap (λ (l : List Filled). slice_get (map whole (a ∷ b ∷ l)) 2) are.2) in
    ap length (single are.0 read is.0 are.1.is is.1) ∙ is.2

module _ (w : Work) (valid : (read : List Logged) → w.after.opened ≡ w.before.opened ++ read → AreValid w.own w.words read) where
  -- what was read is valid
  all-valid : (read : List Logged) → OnlyReads w.before w.after read → AreValid w.own w.words read
  all-valid read only = valid read (ap (λ (o : Outside). o.opened) only)

  no-refusal : (refusal : NetRefusal) → IsRefused w refusal → ⊥
  no-refusal refusal c =
      let v = all-valid (whole (c.name, c.net) ∷ []) c.shelf in
      let has = v.network c.net (c.name, refl) in
      holds-or-refused (specs_of w.own) c.net has.0 has.1 refusal has.2 c.refused

  all-find : (process : List ℕ) → IsPartless w process → ⊥
  all-find process c =
      let v = all-valid (whole (c.asked.net, c.net) ∷ []) c.shelf in
      v.parts c.asked c.net c.text c.plan c.place c.asks (c.asked.net, refl) c.file.holds c.finds.none

  no-fault : HasJournalOrFault → (place : ℕ) → IsFaulty w place → ⊥
  no-fault apart place c =
      let v = all-valid (whole (c.name, c.net) ∷ c.given ∷ []) c.shelf in
      let replay = v.replay c.name c.kept c.tapes c.net c.text c.plan c.asks (c.name, refl) c.file.holds in
      let begins = replay.journal c.given refl in
      apart (c.given.bytes ++ begins.0) begins.2.0 place begins.2.1 (c.shows.fault begins.0 begins.1)

  no-stop : Laws → (place p : ℕ) (refusal : NoTurn) → IsNoSchedule w place p refusal → ⊥
  no-stop laws place p refusal c =
      let r = c.ready in
      let inputs = inputs_of c.plan.processes c.given in
      let v = all-valid (map whole ((c.name, r.net) ∷ (((c.kept, c.bytes) ∷ c.files) ++ inputs))) r.reads in
      let replay = v.replay c.name c.kept c.tapes r.net r.text c.plan c.asks (c.name, refl) r.file.holds in
      let leads = replay.schedule c.bytes c.tells c.told_tapes c.given c.components (c.kept, refl) c.is_journal.is
      (tapes-in w.before.files c.tapes c.files c.told_tapes (c.name, r.net) (c.kept, c.bytes) inputs c.are_tapes)
      (inputs-behind w.before.files c.tapes c.files c.told_tapes (c.name, r.net) (c.kept, c.bytes) inputs c.are_tapes) c.are_components in
      laws.no_schedule laws.one (start_of c.plan c.components) (schedule_of c.tells) place p refusal leads.0 c.stops leads.1

  no-tapes-fault : HasTapesOrFault → (place : ℕ) → IsTapesFaulty w place → ⊥
  no-tapes-fault apart place c =
      let v = all-valid (map whole ((c.name, c.net) ∷ (c.kept, c.bytes) ∷ (c.named, c.tape_bytes) ∷ [])) c.shelf in
      let replay = v.replay c.name c.kept (Some c.named) c.net c.text c.plan c.asks (c.name, refl) c.file.holds in
      let has = replay.tapes_are c.tape_bytes (c.named, refl) in
      apart c.tape_bytes has.0 place has.1 c.fault

  no-miscount : HasOneList → (count : ℕ) → IsMiscounted w count → ⊥
  no-miscount single count c =
      let v = all-valid (map whole ((c.name, c.net) ∷ (c.kept, c.bytes) ∷ c.files)) c.shelf in
      let replay = v.replay c.name c.kept c.tapes c.net c.text c.plan c.asks (c.name, refl) c.file.holds in
      c.differs (counted single (specs_of w.own) c.plan w.before.files c.tapes c.files c.told_tapes (c.name, c.net) (c.kept, c.bytes) c.are_tapes replay.tapes_are)

  -- a file that the call reads isn't too long
  not-too-long : (read : Name) → IsTooLong w read → ⊥
  not-too-long read c =
      let more = c.shelf in
      let v = all-valid (map whole c.earlier ++ partly more.0 read ∷ []) more.2 in
      let at = get-last (map whole c.earlier) (partly more.0 read) in
      let has = limited-at (specs_of w.own) w.words w.before.files c.name c.earlier c.limit read c.next in
      let few = v.short (length (map whole c.earlier)) c.limit (partly more.0 read) at has.0 has.1 in
      let many = more.1 in
      omega (arith, few, many)

  valid-stop : Laws → (name : Name) → IsCommand w.words name → (stop : Stop) → HasCause w stop
      → (Rose w.before.read_faults w.after.read_faults → ⊥) → (Rose w.before.write_faults w.after.write_faults → ⊥) → stop ≡ NoMemory
  valid-stop laws name command NoMemory c reads writes = refl
  valid-stop laws name command (ReadFault read) c reads writes = absurd (reads c.shelf.rose)
  valid-stop laws name command (WriteFault file) c reads writes =
      absurd (writes (subst (λ (k : ℕ). Rose k w.after.write_faults) (ap (λ (o : Outside). o.write_faults) c.run.ready.reads) c.fails.fails.rose))
  valid-stop laws name command Words c reads writes = absurd (no-command w.words name c.none command)
  valid-stop laws name command (Refused refusal) c reads writes = absurd (no-refusal refusal c)
  valid-stop laws name command (NoPart process) c reads writes = absurd (all-find process c)
  valid-stop laws name command (TapesRefused (tapes_refusals.Byte place)) c reads writes = absurd (no-tapes-fault laws.tapes_apart place c)
  valid-stop laws name command (TapesRefused (tapes_refusals.Count count)) c reads writes = absurd (no-miscount laws.tapes_single count c)
  valid-stop laws name command (JournalRefused (Byte place)) c reads writes = absurd (no-fault laws.apart place c)
  valid-stop laws name command (JournalRefused (Turn place process refusal)) c reads writes = absurd (no-stop laws place process refusal c)
  valid-stop laws name command (TooLong read) c reads writes = absurd (not-too-long (string_bytes read) c)

-- what has no network file is stopped by nothing else
still-stop : (w : Work) (asked : Asked) (stop : Stop) → Asks w.words asked → file_of asked ≡ None → HasCause w stop
    → (Rose w.before.read_faults w.after.read_faults → ⊥) → (Rose w.before.write_faults w.after.write_faults → ⊥) → stop ≡ NoMemory
still-stop w asked NoMemory asks none c reads writes = refl
still-stop w asked (ReadFault read) asks none c reads writes = absurd (reads c.shelf.rose)
still-stop w asked (WriteFault file) asks none c reads writes = absurd (no-file w.words c.asked.net asked asks none (on-file w.words (run_of c.asked) c.asked.net refl c.asks))
still-stop w asked Words asks none c reads writes = let h = c.none in absurd cc
still-stop w asked (Refused refusal) asks none c reads writes = absurd (no-file w.words c.name asked asks none c.command)
still-stop w asked (NoPart process) asks none c reads writes = absurd (no-file w.words c.asked.net asked asks none (on-file w.words (run_of c.asked) c.asked.net refl c.asks))
still-stop w asked (TapesRefused (tapes_refusals.Byte place)) asks none c reads writes = absurd (no-file w.words c.name asked asks none (on-file w.words (Replay c.name c.kept (Some c.named)) c.name refl c.asks))
still-stop w asked (TapesRefused (tapes_refusals.Count count)) asks none c reads writes = absurd (no-file w.words c.name asked asks none (on-file w.words (Replay c.name c.kept c.tapes) c.name refl c.asks))
still-stop w asked (JournalRefused (Byte place)) asks none c reads writes = absurd (no-file w.words c.name asked asks none (on-file w.words (Replay c.name c.kept c.tapes) c.name refl c.asks))
still-stop w asked (JournalRefused (Turn place process refusal)) asks none c reads writes = absurd (no-file w.words c.name asked asks none (on-file w.words (Replay c.name c.kept c.tapes) c.name refl c.asks))
still-stop w asked (TooLong read) asks none c reads writes = absurd (no-file w.words c.name asked asks none c.command)

-- Where the words ask for what has no network file, or what was read is valid, and no count of faults of the shelf rose, a stop is want of memory.
pub valid-at : Laws → (w : Work) (stop : Stop)
    → HasCause w stop → IsValid w → (Rose w.before.read_faults w.after.read_faults → ⊥) → (Rose w.before.write_faults w.after.write_faults → ⊥) → stop ≡ NoMemory
valid-at laws w stop c (inl still) reads writes = still-stop w still.0 stop still.1 still.2 c reads writes
valid-at laws w stop c (inr valid) reads writes = valid-stop w valid.2 laws valid.0 valid.1 stop c reads writes
