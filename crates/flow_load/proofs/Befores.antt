-- The causes of stops before a run.
use Rattle.std.proofs.Common.{◌≡◌, inl, inr, ℕ, List, [], ◌∷◌, ◌++◌, map, length, Some, None, Ok, Err, refl, sym, ap, ◌∙◌, subst, append_assoc}
use Rattle.std.proofs.lemmas.List.{length-map, map-append}
use Rattle.std.specs.Prelude.{◌≢◌, Vec, String, string_bytes}
use Rattle.std.specs.Option.{option_and_then, option_map}
use Rattle.std.specs.declared.alloc.Global.{Global}
use Rattle.std.specs.declared.option.Option.{Option}
use Rattle.std.specs.declared.result.Result.{Result}
use Rattle.flow_limits.specs.declared.TheConstants.{FILE_LIMIT}
use Rattle.flow_tape.specs.declared.TheConstants.{TAPE_FILE_LIMIT}
use Rattle.flow_text.specs.Edge.{Outside, Name, Files, Logged}
use Rattle.flow_plan.specs.declared.kind.KindSpec.{KindSpec}
use Rattle.flow_plan.specs.Network.{Network}
use Rattle.flow_words.specs.declared.asked.Command.{Command}
use Rattle.flow_words.specs.Words.{Asked, AskedRun, Replay, run_of, asked_by, command_of}
use Rattle.flow_offer.specs.Processes.{own_processes}
use Rattle.flow_offer.specs.Shares.{IsFirstWithout}
use Rattle.flow_parse.specs.declared.value.NetText.{NetText}
use Rattle.flow_journal.specs.declared.merge.Journal.{Journal}
use Rattle.flow_load.specs.Step.{Filled, OnlyReads, FailsToRead, MayRead, Unended, IsRead, GivesMore, HoldsMore, whole}
use Rattle.flow_load.specs.Networks.{RefusedFor, ReadsAs}
use Rattle.flow_load.specs.Offers.{AnyKind, Offer, Recorded, Taped, IsNothing, specs_of, parts_of}
use Rattle.flow_load.specs.Components.{AreLive, inputs_of, contents_of, AreRead, IsNext, StopsHandingOut, StopsAtFile, ReadsInputs}
use Rattle.flow_load.specs.Reads.{Asks, file_of, AreTapes, IsCommand, IsFile, IsJournalFile, IsBetween, IsReady, IsLimitedNext, IsTapesNext, ReadsBehind, ShowsFault}
use Rattle.flow_load.specs.Causes.{Work, IsUntouched, HasCause}
use Rattle.flow_load.specs.declared.before.Job.{Job}
use Rattle.flow_load.specs.Prepare.{IsReadyToRun, Loads, ReadsJournal, ReadsTapes, StopsCommand, so_far}
use Rattle.flow_load.specs.declared.net_file.NetFile.{NetFile}
use Rattle.flow_load.specs.declared.stop.JournalRefusal.TheVariants.{Byte, Turn}
use Rattle.flow_load.specs.declared.stop.TapesRefusal.TheVariants as tapes_refusals
use Rattle.flow_load.specs.declared.stop.Stop.{Stop}
use Rattle.flow_load.specs.declared.stop.Stop.TheVariants.{Words, Refused, NoPart, JournalRefused, TapesRefused, ReadFault, WriteFault, TooLong, NoMemory}
use Rattle.flow_load.proofs.Steps.{may-read, MayRead-trans}
use Rattle.flow_load.proofs.Readings.{OnlyReads-trans, FailsToRead-after, GivesMore-after, OnlyReads-files}

-- what reads alone leaves all files
pub untouched : (w : Work) → MayRead w.before w.after → IsNothing w.recorded → IsUntouched w
untouched w may empty = record { nothing = empty; files = ap (λ (o : Outside). o.files) may; created = ap (λ (o : Outside). o.created) may }

-- a command is one on its file
pub on-file : (words : List (String Global)) (asked : Asked) (name : Name) → file_of asked ≡ Some name → Asks words asked → IsCommand words name
on-file words asked name named is = ap (λ c. option_and_then file_of c) is ∙ named

-- What the words ask for is what the command does that was read of them.
pub asks-as : (words : List (String Global)) (found : Option Command) (command : Command) → option_map asked_by found ≡ command_of (map string_bytes words) → found ≡ Some command
    → Asks words (asked_by command)
asks-as words found command read is = sym read ∙ ap (option_map asked_by) is

-- a stop at the network file
pub file-stopped : (kinds : List KindSpec) (old new : Outside) (name : Name) (stop : Stop) → StopsAtFile old new [] name stop → StopsCommand kinds old new name stop
file-stopped kinds old new name (ReadFault read) s = λ words own recorded offered command empty. record {
  name = name;
  command = command;
  earlier = [];
  next = inl (FILE_LIMIT, inl (refl, s.0, refl));
  opened = s.1.0;
  unended = subst (λ (n : Name). Unended n s.1.0) (sym s.0) s.1.1;
  shelf = subst (λ (n : Name). FailsToRead old new s.1.0 n) (sym s.0) s.1.2;
  nothing = empty;
}
file-stopped kinds old new name (TooLong read) s = λ words own recorded offered command empty. record {
  name = name;
  command = command;
  earlier = [];
  limit = FILE_LIMIT;
  next = inl (refl, s.0, refl);
  more = subst (λ (n : Name). HoldsMore old.files FILE_LIMIT n) (sym s.0) s.2;
  shelf = subst (λ (n : Name). GivesMore old new [] FILE_LIMIT n) (sym s.0) s.1;
  nothing = empty;
}
file-stopped kinds old new name NoMemory s = λ words own recorded offered command empty. inl (untouched (so_far words own old new recorded) s empty)
file-stopped kinds old new name Words s = absurd s
file-stopped kinds old new name (Refused refusal) s = absurd s
file-stopped kinds old new name (NoPart process) s = absurd s
file-stopped kinds old new name (TapesRefused refusal) s = absurd s
file-stopped kinds old new name (JournalRefused refusal) s = absurd s
file-stopped kinds old new name (WriteFault written) s = absurd s

-- what a network file that was read is taken for
pub loads : (kinds : List KindSpec) (old new : Outside) (name net : Name) → OnlyReads old new (whole (name, net) ∷ []) → IsRead old.files FILE_LIMIT (name, net)
    → (r : Result NetFile Stop) → ReadsAs kinds net r → Loads kinds old new name r
loads kinds old new name net only read (Ok file) taken = (net, only, record { read = read; holds = taken.0; over = taken.1 })
loads kinds old new name net only read (Err (Refused refusal)) taken = λ words own recorded offered command empty. record {
  name = name;
  command = command;
  net = net;
  read = read;
  refused = subst (λ (k : List KindSpec). RefusedFor k net refusal) (sym offered) taken;
  shelf = only;
  nothing = empty;
}
loads kinds old new name net only read (Err NoMemory) taken = λ words own recorded offered command empty. inl (untouched (so_far words own old new recorded) (may-read old new _ only) empty)
loads kinds old new name net only read (Err Words) taken = absurd taken
loads kinds old new name net only read (Err (NoPart process)) taken = absurd taken
loads kinds old new name net only read (Err (JournalRefused refusal)) taken = absurd taken
loads kinds old new name net only read (Err (TapesRefused refusal)) taken = absurd taken
loads kinds old new name net only read (Err (ReadFault name')) taken = absurd taken
loads kinds old new name net only read (Err (WriteFault name')) taken = absurd taken
loads kinds old new name net only read (Err (TooLong name')) taken = absurd taken

-- A process that finds no part, behind the network file.
pub parts-stopped : (kinds : List KindSpec) (counts : List ℕ) (old new : Outside) (asked : AskedRun) (net : Name) (text : NetText) (plan : Network) → OnlyReads old new (whole (asked.net, net) ∷ [])
    → IsFile kinds old.files asked.net net text plan → (stop : Stop) → StopsHandingOut kinds counts plan stop → (words : List (String Global)) (own : List Offer) (recorded : Recorded)
    → specs_of own ≡ kinds → parts_of own ≡ counts → Asks words (run_of asked) → IsNothing recorded → HasCause (so_far words own old new recorded) stop
parts-stopped kinds counts old new asked net text plan only file (NoPart name) h words own recorded offered counted asks empty = record {
  asked = asked;
  asks = asks;
  net = net;
  text = text;
  plan = plan;
  file = subst (λ (k : List KindSpec). IsFile k old.files asked.net net text plan) (sym offered) file;
  place = h.0;
  there = h.1;
  is_there = h.2;
  named = h.3;
  finds = subst (λ (k : List KindSpec). IsFirstWithout k (parts_of own) plan h.0) (sym offered) (subst (λ (n : List ℕ). IsFirstWithout kinds n plan h.0) (sym counted) h.4);
  shelf = only;
  nothing = empty;
}
parts-stopped kinds counts old new asked net text plan only file NoMemory h words own recorded offered counted asks empty =
    inl (untouched (so_far words own old new recorded) (may-read old new _ only) empty)
parts-stopped kinds counts old new asked net text plan only file Words h words own recorded offered counted asks empty = absurd h
parts-stopped kinds counts old new asked net text plan only file (Refused refusal) h words own recorded offered counted asks empty = absurd h
parts-stopped kinds counts old new asked net text plan only file (JournalRefused refusal) h words own recorded offered counted asks empty = absurd h
parts-stopped kinds counts old new asked net text plan only file (TapesRefused refusal) h words own recorded offered counted asks empty = absurd h
parts-stopped kinds counts old new asked net text plan only file (ReadFault read) h words own recorded offered counted asks empty = absurd h
parts-stopped kinds counts old new asked net text plan only file (WriteFault written) h words own recorded offered counted asks empty = absurd h
parts-stopped kinds counts old new asked net text plan only file (TooLong read) h words own recorded offered counted asks empty = absurd h

-- a stop at a journal's file, behind the network file
module _ (kinds : List KindSpec) (old mid new : Outside) (name kept : Name) (tapes : Option Name) (net : Name) (text : NetText) (plan : Network) (only : OnlyReads old mid (whole (name, net) ∷ []))
    (file : IsFile kinds old.files name net text plan) where
  told : mid.files ≡ old.files
  told = OnlyReads-files old mid (whole (name, net) ∷ []) only

  own-file : (own : List Offer) → specs_of own ≡ kinds → IsFile (specs_of own) old.files name net text plan
  own-file own offered = subst (λ (k : List KindSpec). IsFile k old.files name net text plan) (sym offered) file

  pub journal-stopped : (stop : Stop) → ReadsJournal mid new kept (Err stop) → (words : List (String Global)) (own : List Offer) (recorded : Recorded) → specs_of own ≡ kinds
      → Asks words (Replay name kept tapes) → IsNothing recorded → HasCause (so_far words own old new recorded) stop
  journal-stopped (JournalRefused (Byte place)) r words own recorded offered asks empty = record {
    name = name;
    kept = kept;
    tapes = tapes;
    asks = asks;
    net = net;
    text = text;
    plan = plan;
    file = own-file own offered;
    given = r.0;
    shows = subst (λ (t : Option Files). ShowsFault t kept r.0 place) told r.2;
    shelf = OnlyReads-trans old mid new (whole (name, net) ∷ []) (r.0 ∷ []) only r.1;
    nothing = empty;
  }
  journal-stopped (JournalRefused (Turn place p refusal)) r words own recorded offered asks empty = absurd r
  journal-stopped (ReadFault read) r words own recorded offered asks empty = record {
    name = name;
    command = on-file words (Replay name kept tapes) name refl asks;
    earlier = (name, net) ∷ [];
    next = inr (record {
      tapes = tapes;
      asks = subst (λ (n : Name). Asks words (Replay name n tapes)) (sym r.0) asks;
      net = net;
      text = text;
      plan = plan;
      file = own-file own offered;
      earlier_are = refl;
    });
    opened = r.1.0;
    unended = subst (λ (n : Name). Unended n r.1.0) (sym r.0) r.1.1;
    shelf = subst (λ (n : Name). FailsToRead old new (whole (name, net) ∷ r.1.0) n) (sym r.0)
        (FailsToRead-after old mid new (whole (name, net) ∷ []) r.1.0 kept only r.1.2);
    nothing = empty;
  }
  journal-stopped NoMemory may words own recorded offered asks empty = inl (untouched (so_far words own old new recorded) (MayRead-trans old mid new (may-read old mid _ only) may) empty)
  journal-stopped Words r words own recorded offered asks empty = absurd r
  journal-stopped (Refused refusal) r words own recorded offered asks empty = absurd r
  journal-stopped (NoPart process) r words own recorded offered asks empty = absurd r
  journal-stopped (TapesRefused refusal) r words own recorded offered asks empty = absurd r
  journal-stopped (WriteFault written) r words own recorded offered asks empty = absurd r
  journal-stopped (TooLong read) r words own recorded offered asks empty = absurd r

-- The journal's file is one of the shelf before the network file was read.
pub journal-file-of : (old mid : Outside) (name net kept bytes : List ℕ) (journal : Journal) → OnlyReads old mid (whole (name, net) ∷ []) → IsJournalFile mid.files kept bytes journal
    → IsJournalFile old.files kept bytes journal
journal-file-of old mid name net kept bytes journal only is = subst (λ (t : Option Files). IsJournalFile t kept bytes journal) (OnlyReads-files old mid (whole (name, net) ∷ []) only) is

-- The journal's file, behind the network file.
pub behind-net : (old mid low : Outside) (name kept net bytes : Name) → OnlyReads old mid (whole (name, net) ∷ []) → OnlyReads mid low (whole (kept, bytes) ∷ [])
    → OnlyReads old low (map whole ((name, net) ∷ (kept, bytes) ∷ []))
behind-net old mid low name kept net bytes only more = OnlyReads-trans old mid low (whole (name, net) ∷ []) (whole (kept, bytes) ∷ []) only more

-- the tapes of a replay, behind the network file and the journal's
module _ (kinds : List KindSpec) (old mid new : Outside) (name kept net bytes : Name) (text : NetText) (plan : Network) (journal : Journal)
    (only : OnlyReads old mid (map whole ((name, net) ∷ (kept, bytes) ∷ []))) (file : IsFile kinds old.files name net text plan) (is_journal : IsJournalFile old.files kept bytes journal) where
  told-before : mid.files ≡ old.files
  told-before = OnlyReads-files old mid (map whole ((name, net) ∷ (kept, bytes) ∷ [])) only

  its-file : (own : List Offer) → specs_of own ≡ kinds → IsFile (specs_of own) old.files name net text plan
  its-file own offered = subst (λ (k : List KindSpec). IsFile k old.files name net text plan) (sym offered) file

  -- The file of the tapes is one of the shelf before.
  pub tapes-of : (tapes : Option Name) (files : List Filled) (read : List Taped) → AreTapes mid.files tapes files read → AreTapes old.files tapes files read
  tapes-of tapes files read are = subst (λ (t : Option Files). AreTapes t tapes files read) told-before are

  -- All that was read so far.
  pub behind-journal : (files : List Filled) → OnlyReads mid new (map whole files) → OnlyReads old new (map whole ((name, net) ∷ (kept, bytes) ∷ files))
  behind-journal files more = OnlyReads-trans old mid new (map whole ((name, net) ∷ (kept, bytes) ∷ [])) (map whole files) only more

  -- What a replay reads between the network file and the inputs.
  pub between-of : (tapes : Option Name) (files : List Filled) (read : List Taped) → AreTapes mid.files tapes files read → ReadsBehind old.files kept tapes ((kept, bytes) ∷ files)
  between-of tapes files read are = record {
    bytes = bytes;
    journal = journal;
    is_journal = is_journal;
    files = files;
    told_tapes = read;
    are_tapes = tapes-of tapes files read are;
    between_is = refl;
  }

  next-tapes : (words : List (String Global)) (own : List Offer) → specs_of own ≡ kinds → (named read : Name) → read ≡ named → Asks words (Replay name kept (Some named))
      → IsTapesNext (specs_of own) words old.files name ((name, net) ∷ (kept, bytes) ∷ []) read
  next-tapes words own offered named read same asks = record {
    kept = kept;
    asks = subst (λ (n : Name). Asks words (Replay name kept (Some n))) (sym same) asks;
    net = net;
    text = text;
    plan = plan;
    file = its-file own offered;
    bytes = bytes;
    journal = journal;
    is_journal = is_journal;
    earlier_are = refl;
  }

  -- memory was wanting
  nothing-left : (words : List (String Global)) (own : List Offer) (recorded : Recorded) → MayRead mid new → IsNothing recorded → HasCause (so_far words own old new recorded) NoMemory
  nothing-left words own recorded may empty =
      inl (untouched (so_far words own old new recorded) (MayRead-trans old mid new (may-read old mid (map whole ((name, net) ∷ (kept, bytes) ∷ [])) only) may) empty)

  -- Not as many tapes as processes for them.
  miscounted : (tapes : Option Name) (files : List Filled) (read : List Taped) (count : ℕ) → OnlyReads mid new (map whole files) → AreTapes mid.files tapes files read → count ≡ length read
      → length read ≢ length (own_processes kinds plan) → (words : List (String Global)) (own : List Offer) (recorded : Recorded) → specs_of own ≡ kinds → Asks words (Replay name kept tapes) → IsNothing recorded
      → HasCause (so_far words own old new recorded) (TapesRefused (tapes_refusals.Count count))
  miscounted tapes files read count more are count_is differs words own recorded offered asks empty = record {
    name = name;
    kept = kept;
    tapes = tapes;
    asks = asks;
    net = net;
    text = text;
    plan = plan;
    file = its-file own offered;
    bytes = bytes;
    tells = journal;
    is_journal = is_journal;
    files = files;
    told_tapes = read;
    are_tapes = tapes-of tapes files read are;
    count_is = count_is;
    differs = subst (λ (k : List KindSpec). length read ≢ length (own_processes k plan)) (sym offered) differs;
    shelf = behind-journal files more;
    nothing = empty;
  }

  named-stopped : (wanted : ℕ) → wanted ≡ length (own_processes kinds plan) → (named : Name) (stop : Stop) → ReadsTapes wanted mid new (Some named) (Err stop) → (words : List (String Global)) (own : List Offer) (recorded : Recorded) → specs_of own ≡ kinds
      → Asks words (Replay name kept (Some named)) → IsNothing recorded → HasCause (so_far words own old new recorded) stop
  named-stopped wanted are named (TapesRefused (tapes_refusals.Byte place)) r words own recorded offered asks empty = record {
    name = name;
    kept = kept;
    named = named;
    asks = asks;
    net = net;
    text = text;
    plan = plan;
    file = its-file own offered;
    bytes = bytes;
    tells = journal;
    is_journal = is_journal;
    tape_bytes = r.0;
    read = subst (λ (t : Option Files). IsRead t TAPE_FILE_LIMIT (named, r.0)) told-before r.2;
    fault = r.3;
    shelf = behind-journal ((named, r.0) ∷ []) r.1;
    nothing = empty;
  }
  named-stopped wanted are named (TapesRefused (tapes_refusals.Count count)) r words own recorded offered asks empty =
      miscounted (Some named) r.0 r.1 count r.2 r.3 r.4 (λ same. r.5 (r.4 ∙ same ∙ sym are)) words own recorded offered asks empty
  named-stopped wanted are named (ReadFault read) r words own recorded offered asks empty = record {
    name = name;
    command = on-file words (Replay name kept (Some named)) name refl asks;
    earlier = (name, net) ∷ (kept, bytes) ∷ [];
    next = inl (TAPE_FILE_LIMIT, inr (inl (refl, next-tapes words own offered named (string_bytes read) r.0 asks)));
    opened = r.1.0;
    unended = subst (λ (n : Name). Unended n r.1.0) (sym r.0) r.1.1;
    shelf = subst (λ (n : Name). FailsToRead old new (map whole ((name, net) ∷ (kept, bytes) ∷ []) ++ r.1.0) n) (sym r.0)
        (FailsToRead-after old mid new (map whole ((name, net) ∷ (kept, bytes) ∷ [])) r.1.0 named only r.1.2);
    nothing = empty;
  }
  named-stopped wanted are named (TooLong read) r words own recorded offered asks empty = record {
    name = name;
    command = on-file words (Replay name kept (Some named)) name refl asks;
    earlier = (name, net) ∷ (kept, bytes) ∷ [];
    limit = TAPE_FILE_LIMIT;
    next = inr (inl (refl, next-tapes words own offered named (string_bytes read) r.0 asks));
    more = subst (λ (n : Name). HoldsMore old.files TAPE_FILE_LIMIT n) (sym r.0) (subst (λ (t : Option Files). HoldsMore t TAPE_FILE_LIMIT named) told-before r.2);
    shelf = subst (λ (n : Name). GivesMore old new (map whole ((name, net) ∷ (kept, bytes) ∷ [])) TAPE_FILE_LIMIT n) (sym r.0)
        (GivesMore-after old mid new (map whole ((name, net) ∷ (kept, bytes) ∷ [])) [] TAPE_FILE_LIMIT named only r.1);
    nothing = empty;
  }
  named-stopped wanted are named NoMemory may words own recorded offered asks empty = nothing-left words own recorded may empty
  named-stopped wanted are named Words r words own recorded offered asks empty = absurd r
  named-stopped wanted are named (Refused refusal) r words own recorded offered asks empty = absurd r
  named-stopped wanted are named (NoPart process) r words own recorded offered asks empty = absurd r
  named-stopped wanted are named (JournalRefused refusal) r words own recorded offered asks empty = absurd r
  named-stopped wanted are named (WriteFault written) r words own recorded offered asks empty = absurd r

  unnamed-stopped : (wanted : ℕ) → wanted ≡ length (own_processes kinds plan) → (stop : Stop) → ReadsTapes wanted mid new None (Err stop) → (words : List (String Global)) (own : List Offer) (recorded : Recorded)
      → specs_of own ≡ kinds → Asks words (Replay name kept None) → IsNothing recorded → HasCause (so_far words own old new recorded) stop
  unnamed-stopped wanted are NoMemory may words own recorded offered asks empty = nothing-left words own recorded may empty
  unnamed-stopped wanted are (TapesRefused (tapes_refusals.Byte place)) r words own recorded offered asks empty = absurd r
  unnamed-stopped wanted are (TapesRefused (tapes_refusals.Count count)) r words own recorded offered asks empty =
      miscounted None r.0 r.1 count r.2 r.3 r.4 (λ same. r.5 (r.4 ∙ same ∙ sym are)) words own recorded offered asks empty
  unnamed-stopped wanted are (ReadFault read) r words own recorded offered asks empty = absurd r
  unnamed-stopped wanted are (TooLong read) r words own recorded offered asks empty = absurd r
  unnamed-stopped wanted are Words r words own recorded offered asks empty = absurd r
  unnamed-stopped wanted are (Refused refusal) r words own recorded offered asks empty = absurd r
  unnamed-stopped wanted are (NoPart process) r words own recorded offered asks empty = absurd r
  unnamed-stopped wanted are (JournalRefused refusal) r words own recorded offered asks empty = absurd r
  unnamed-stopped wanted are (WriteFault written) r words own recorded offered asks empty = absurd r

  pub tapes-stopped : (wanted : ℕ) → wanted ≡ length (own_processes kinds plan) → (tapes : Option Name) (stop : Stop) → ReadsTapes wanted mid new tapes (Err stop) → (words : List (String Global)) (own : List Offer) (recorded : Recorded) → specs_of own ≡ kinds
      → Asks words (Replay name kept tapes) → IsNothing recorded → HasCause (so_far words own old new recorded) stop
  tapes-stopped wanted are None stop r words own recorded offered asks empty = unnamed-stopped wanted are stop r words own recorded offered asks empty
  tapes-stopped wanted are (Some named) stop r words own recorded offered asks empty = named-stopped wanted are named stop r words own recorded offered asks empty

-- a stop at an input, behind the network file and what stands between
module _ (kinds : List KindSpec) (old mid new : Outside) (name net : Name) (between : List Filled) (text : NetText) (plan : Network)
    (only : OnlyReads old mid (map whole ((name, net) ∷ between))) (file : IsFile kinds old.files name net text plan) where
  told-between : mid.files ≡ old.files
  told-between = OnlyReads-files old mid (map whole ((name, net) ∷ between)) only

  -- what was read before and behind
  all-read : (inputs : List Filled) → map whole ((name, net) ∷ between) ++ map whole inputs ≡ map whole ((name, net) ∷ (between ++ inputs))
  all-read inputs = sym (map-append whole ((name, net) ∷ between) inputs)

  behind-between : (words : List (String Global)) (own : List Offer) → specs_of own ≡ kinds → IsBetween words old.files name between → (inputs : List Filled) (input read : Name) → read ≡ input
      → IsNext mid.files plan inputs input → IsLimitedNext (specs_of own) words old.files name ((name, net) ∷ (between ++ inputs)) FILE_LIMIT read
  behind-between words own offered is_between inputs input read same is = inr (inr (
    refl,
    record {
      net = net;
      text = text;
      plan = plan;
      file = subst (λ (k : List KindSpec). IsFile k old.files name net text plan) (sym offered) file;
      between = between;
      is_between = is_between;
      inputs = inputs;
      next = subst (λ (n : Name). IsNext old.files plan inputs n) (sym same) (subst (λ (t : Option Files). IsNext t plan inputs input) told-between is);
      earlier_are = refl;
    },
  ))

  -- the files that were opened, up to one that stops
  opened-all : (inputs : List Filled) (more : List Logged) → map whole ((name, net) ∷ between) ++ (map whole inputs ++ more) ≡ map whole ((name, net) ∷ (between ++ inputs)) ++ more
  opened-all inputs more = sym (append_assoc (map whole ((name, net) ∷ between)) (map whole inputs) more) ∙ ap (λ l. l ++ more) (all-read inputs)

  pub inputs-stopped : (stop : Stop) → ReadsInputs mid new plan (Err stop) → (words : List (String Global)) (own : List Offer) (recorded : Recorded) → specs_of own ≡ kinds → IsCommand words name
      → IsBetween words old.files name between → IsNothing recorded → HasCause (so_far words own old new recorded) stop
  inputs-stopped (ReadFault read) r words own recorded offered command is_between empty = record {
    name = name;
    command = command;
    earlier = (name, net) ∷ (between ++ r.0);
    next = inl (FILE_LIMIT, behind-between words own offered is_between r.0 r.1 (string_bytes read) r.3.0 r.2);
    opened = r.3.1.0;
    unended = subst (λ (n : Name). Unended n r.3.1.0) (sym r.3.0) r.3.1.1;
    shelf = subst (λ (n : Name). FailsToRead old new (map whole ((name, net) ∷ (between ++ r.0)) ++ r.3.1.0) n) (sym r.3.0)
        (subst (λ (l : List Logged). FailsToRead old new l r.1) (opened-all r.0 r.3.1.0)
        (FailsToRead-after old mid new (map whole ((name, net) ∷ between)) (map whole r.0 ++ r.3.1.0) r.1 only r.3.1.2));
    nothing = empty;
  }
  inputs-stopped (TooLong read) r words own recorded offered command is_between empty = record {
    name = name;
    command = command;
    earlier = (name, net) ∷ (between ++ r.0);
    limit = FILE_LIMIT;
    next = behind-between words own offered is_between r.0 r.1 (string_bytes read) r.3.0 r.2;
    more = subst (λ (n : Name). HoldsMore old.files FILE_LIMIT n) (sym r.3.0) (subst (λ (t : Option Files). HoldsMore t FILE_LIMIT r.1) told-between r.3.2);
    shelf = subst (λ (n : Name). GivesMore old new (map whole ((name, net) ∷ (between ++ r.0))) FILE_LIMIT n) (sym r.3.0)
        (subst (λ (l : List Logged). GivesMore old new l FILE_LIMIT r.1) (all-read r.0)
        (GivesMore-after old mid new (map whole ((name, net) ∷ between)) (map whole r.0) FILE_LIMIT r.1 only r.3.1));
    nothing = empty;
  }
  inputs-stopped NoMemory may words own recorded offered command is_between empty = inl (untouched (so_far words own old new recorded) (MayRead-trans old mid new (may-read old mid _ only) may) empty)
  inputs-stopped Words r words own recorded offered command is_between empty = absurd r.3
  inputs-stopped (Refused refusal) r words own recorded offered command is_between empty = absurd r.3
  inputs-stopped (NoPart process) r words own recorded offered command is_between empty = absurd r.3
  inputs-stopped (TapesRefused refusal) r words own recorded offered command is_between empty = absurd r.3
  inputs-stopped (JournalRefused refusal) r words own recorded offered command is_between empty = absurd r.3
  inputs-stopped (WriteFault written) r words own recorded offered command is_between empty = absurd r.3

  pub ready : (given : Vec (Vec ℕ Global) Global) → ReadsInputs mid new plan (Ok given) → IsReady kinds old new name between plan (contents_of given.items)
  ready given r = record {
    net = net;
    text = text;
    file = file;
    count = counted r.0;
    inputs = subst (λ (t : Option Files). AreRead t (inputs_of plan.processes (contents_of given.items))) told-between r.2;
    reads = subst (λ (l : List Logged). OnlyReads old new l) (all-read (inputs_of plan.processes (contents_of given.items)))
        (OnlyReads-trans old mid new (map whole ((name, net) ∷ between)) (map whole (inputs_of plan.processes (contents_of given.items))) only r.1);
  } where
    counted : length given.items ≡ length plan.processes → length (contents_of given.items) ≡ length plan.processes
    counted same = length-map given.items (λ (v : Vec ℕ Global). v.items) ∙ same

  -- Where memory is wanting behind the inputs.
  pub unmade : (given : Vec (Vec ℕ Global) Global) → ReadsInputs mid new plan (Ok given) → (words : List (String Global)) (own : List Offer) (recorded : Recorded) → IsNothing recorded
      → HasCause (so_far words own old new recorded) NoMemory
  unmade given r words own recorded empty = inl (untouched (so_far words own old new recorded) (may-read old new _ (ready given r).reads) empty)

-- What is read of a network file with these kinds is so with the kinds that are offered.
pub offered-file : (kinds : List KindSpec) (own : List Offer) → specs_of own ≡ kinds → (told : Option Files) (name net : Name) (text : NetText) (plan : Network) → IsFile kinds told name net text plan
    → IsFile (specs_of own) told name net text plan
offered-file kinds own offered told name net text plan file = subst (λ (k : List KindSpec). IsFile k told name net text plan) (sym offered) file

-- A network that can run.
pub run-ready : (kinds : List KindSpec) (own : List Offer) → specs_of own ≡ kinds → (old new : Outside) (name : Name) (job : Job AnyKind) (given : List (List ℕ)) → IsReady kinds old new name [] job.plan given
    → AreLive kinds job.plan given job.components.items → IsReadyToRun (specs_of own) old new name job
run-ready kinds own offered old new name job given is live = subst (λ (k : List KindSpec). IsReadyToRun k old new name job) (sym offered) (record { given = given; ready = is; live = live })
