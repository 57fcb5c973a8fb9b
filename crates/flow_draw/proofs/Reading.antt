-- What is read for a drawing, and why it stops.
use Rattle.std.proofs.Common.{◌≡◌, ◌≢◌, inl, inr, ℕ, List, [], ◌∷◌, ◌++◌, map, Some, Ok, Err, refl, sym, ap, subst}
use Rattle.std.specs.Prelude.{string_bytes}
use Rattle.std.specs.declared.option.Option.{Option}
use Rattle.flow_limits.specs.declared.TheConstants.{FILE_LIMIT}
use Rattle.flow_text.specs.Edge.{Outside, Name, Files}
use Rattle.flow_plan.specs.Network.{Network}
use Rattle.flow_plan.specs.declared.kind.KindSpec.{KindSpec}
use Rattle.flow_parse.specs.declared.value.NetText.{NetText}
use Rattle.flow_journal.specs.declared.merge.Journal.{Journal}
use Rattle.flow_offer.specs.Processes.{own_processes}
use Rattle.flow_load.specs.Step.{Filled, OnlyReads, FailsToRead, Unended, IsRead, GivesMore, HoldsMore, whole}
use Rattle.flow_load.specs.Networks.{ReadsAs}
use Rattle.flow_load.specs.Offers.{AnyKind}
use Rattle.flow_load.specs.Components.{AreComponents, IsNext, StopsAtFile, ReadsInputs}
use Rattle.flow_load.specs.Prepare.{ReadsJournal}
use Rattle.flow_load.specs.Reads.{IsFile, IsJournalFile, IsReady, ShowsFault}
use Rattle.flow_load.specs.Causes.{StopsAgain}
use Rattle.flow_load.specs.declared.net_file.NetFile.{NetFile}
use Rattle.flow_load.specs.declared.stop.JournalRefusal.TheVariants.{Byte, Turn}
use Rattle.flow_load.specs.declared.stop.TapesRefusal.TheVariants.{Count}
use Rattle.flow_load.specs.declared.stop.Stop.{Stop}
use Rattle.flow_load.specs.declared.stop.Stop.TheVariants.{Words, Refused, NoPart, JournalRefused, TapesRefused, ReadFault, WriteFault, TooLong, NoMemory}
use Rattle.flow_load.proofs.Steps.{may-read, MayRead-trans}
use Rattle.flow_load.proofs.Readings.{OnlyReads-trans, FailsToRead-after, GivesMore-after, OnlyReads-files}
use Rattle.flow_draw.specs.Causes.{IsLimitedNext, IsJournalNext, StopsFor}
use Rattle.flow_draw.specs.Loads.{Loads}

-- A read of the network file that stopped.
pub file-stopped : (own : List KindSpec) (old new : Outside) (name : Name) (stop : Stop) → StopsAtFile old new [] name stop → Loads own old new name (Err stop)
file-stopped own old new name (ReadFault read) s = s
file-stopped own old new name (TooLong read) s = s
file-stopped own old new name NoMemory s = s
file-stopped own old new name Words s = absurd s
file-stopped own old new name (Refused refusal) s = absurd s
file-stopped own old new name (NoPart process) s = absurd s
file-stopped own old new name (JournalRefused refusal) s = absurd s
file-stopped own old new name (TapesRefused refusal) s = absurd s
file-stopped own old new name (WriteFault written) s = absurd s

-- A network file that was read, and has a plan.
pub file-read : (own : List KindSpec) (old new : Outside) (name net : Name) (file : NetFile) → OnlyReads old new (whole (name, net) ∷ []) → IsRead old.files FILE_LIMIT (name, net)
    → ReadsAs own net (Ok file) → Loads own old new name (Ok file.plan)
file-read own old new name net file only read taken = (net, file.text, only, record { read = read; holds = taken.0; over = taken.1 })

-- A network file that was read, and is refused.
pub file-refused : (own : List KindSpec) (old new : Outside) (name net : Name) (stop : Stop) → OnlyReads old new (whole (name, net) ∷ []) → IsRead old.files FILE_LIMIT (name, net)
    → ReadsAs own net (Err stop) → Loads own old new name (Err stop)
file-refused own old new name net (Refused refusal) only read taken = record { net = net; read = read; refused = taken; shelf = only }
file-refused own old new name net NoMemory only read taken = may-read old new _ only
file-refused own old new name net Words only read taken = absurd taken
file-refused own old new name net (NoPart process) only read taken = absurd taken
file-refused own old new name net (JournalRefused refusal) only read taken = absurd taken
file-refused own old new name net (TapesRefused refusal) only read taken = absurd taken
file-refused own old new name net (ReadFault read') only read taken = absurd taken
file-refused own old new name net (WriteFault written) only read taken = absurd taken
file-refused own old new name net (TooLong read') only read taken = absurd taken

-- A stop at the network file.
pub net-stopped : (own : List KindSpec) (old new : Outside) (name : Name) (keeps : Option Name) (stop : Stop) → Loads own old new name (Err stop) → StopsFor own old new name keeps stop
net-stopped own old new name keeps (Refused refusal) s = s
net-stopped own old new name keeps (ReadFault read) s = record {
  earlier = [];
  next = inl (inl (s.0, refl));
  opened = s.1.0;
  unended = subst (λ (n : Name). Unended n s.1.0) (sym s.0) s.1.1;
  shelf = subst (λ (n : Name). FailsToRead old new s.1.0 n) (sym s.0) s.1.2;
}
net-stopped own old new name keeps (TooLong read) s = record {
  earlier = [];
  next = inl (s.0, refl);
  more = subst (λ (n : Name). HoldsMore old.files FILE_LIMIT n) (sym s.0) s.2;
  shelf = subst (λ (n : Name). GivesMore old new [] FILE_LIMIT n) (sym s.0) s.1;
}
net-stopped own old new name keeps NoMemory s = s
net-stopped own old new name keeps Words s = absurd s
net-stopped own old new name keeps (NoPart process) s = absurd s
net-stopped own old new name keeps (JournalRefused refusal) s = absurd s
net-stopped own old new name keeps (TapesRefused refusal) s = absurd s
net-stopped own old new name keeps (WriteFault written) s = absurd s

-- A network with processes of the caller's own, of which no state can be drawn.
pub untaped : (own : List KindSpec) (old new : Outside) (name kept net : Name) (text : NetText) (plan : Network) → OnlyReads old new (whole (name, net) ∷ [])
    → IsFile own old.files name net text plan → own_processes own plan ≢ [] → StopsFor own old new name (Some kept) (TapesRefused (Count 0))
untaped own old new name kept net text plan only file has_own = record {
  kept = kept;
  keeps_is = refl;
  net = net;
  text = text;
  plan = plan;
  file = file;
  has_own = has_own;
  count_is = refl;
  shelf = only;
}

-- A stop at the journal's file, behind the network file.
module _ (own : List KindSpec) (old mid new : Outside) (name kept net : Name) (text : NetText) (plan : Network) (only : OnlyReads old mid (whole (name, net) ∷ []))
    (file : IsFile own old.files name net text plan) where
  told : mid.files ≡ old.files
  told = OnlyReads-files old mid (whole (name, net) ∷ []) only

  behind : (read : Name) → read ≡ kept → IsJournalNext own old.files name (Some kept) ((name, net) ∷ []) read
  behind read same = record { keeps_is = ap Some (sym same); net = net; text = text; plan = plan; file = file; earlier_are = refl }

  pub journal-stopped : (stop : Stop) → ReadsJournal mid new kept (Err stop) → StopsFor own old new name (Some kept) stop
  journal-stopped (JournalRefused (Byte place)) r = record {
    kept = kept;
    keeps_is = refl;
    net = net;
    text = text;
    plan = plan;
    file = file;
    given = r.0;
    shows = subst (λ (t : Option Files). ShowsFault t kept r.0 place) told r.2;
    shelf = OnlyReads-trans old mid new (whole (name, net) ∷ []) (r.0 ∷ []) only r.1;
  }
  journal-stopped (JournalRefused (Turn place p refusal)) r = absurd r
  journal-stopped (ReadFault read) r = record {
    earlier = (name, net) ∷ [];
    next = inr (behind (string_bytes read) r.0);
    opened = r.1.0;
    unended = subst (λ (n : Name). Unended n r.1.0) (sym r.0) r.1.1;
    shelf = subst (λ (n : Name). FailsToRead old new (whole (name, net) ∷ r.1.0) n) (sym r.0)
        (FailsToRead-after old mid new (whole (name, net) ∷ []) r.1.0 kept only r.1.2);
  }
  journal-stopped NoMemory may = MayRead-trans old mid new (may-read old mid _ only) may
  journal-stopped Words r = absurd r
  journal-stopped (Refused refusal) r = absurd r
  journal-stopped (NoPart process) r = absurd r
  journal-stopped (TapesRefused refusal) r = absurd r
  journal-stopped (WriteFault written) r = absurd r
  journal-stopped (TooLong read) r = absurd r

-- A stop at the file of a reader, behind the network file and the journal's.
module _ (own : List KindSpec) (old mid new : Outside) (name net kept bytes : Name) (journal : Journal) (text : NetText) (plan : Network)
    (only : OnlyReads old mid (map whole ((name, net) ∷ (kept, bytes) ∷ []))) (file : IsFile own old.files name net text plan)
    (is_journal : IsJournalFile old.files kept bytes journal) where
  told-between : mid.files ≡ old.files
  told-between = OnlyReads-files old mid (map whole ((name, net) ∷ (kept, bytes) ∷ [])) only

  behind-both : (inputs : List Filled) (input read : Name) → read ≡ input → IsNext mid.files plan inputs input
      → IsLimitedNext own old.files name (Some kept) ((name, net) ∷ (kept, bytes) ∷ inputs) read
  behind-both inputs input read same is = inr (record {
    kept = kept;
    keeps_is = refl;
    net = net;
    text = text;
    plan = plan;
    file = file;
    bytes = bytes;
    journal = journal;
    is_journal = is_journal;
    inputs = inputs;
    next = subst (λ (n : Name). IsNext old.files plan inputs n) (sym same) (subst (λ (t : Option Files). IsNext t plan inputs input) told-between is);
    earlier_are = refl;
  })

  pub inputs-stopped : (stop : Stop) → ReadsInputs mid new plan (Err stop) → StopsFor own old new name (Some kept) stop
  inputs-stopped (ReadFault read) r = record {
    earlier = (name, net) ∷ (kept, bytes) ∷ r.0;
    next = inl (behind-both r.0 r.1 (string_bytes read) r.3.0 r.2);
    opened = r.3.1.0;
    unended = subst (λ (n : Name). Unended n r.3.1.0) (sym r.3.0) r.3.1.1;
    shelf = subst (λ (n : Name). FailsToRead old new (map whole ((name, net) ∷ (kept, bytes) ∷ r.0) ++ r.3.1.0) n) (sym r.3.0)
        (FailsToRead-after old mid new (map whole ((name, net) ∷ (kept, bytes) ∷ [])) (map whole r.0 ++ r.3.1.0) r.1 only r.3.1.2);
  }
  inputs-stopped (TooLong read) r = record {
    earlier = (name, net) ∷ (kept, bytes) ∷ r.0;
    next = behind-both r.0 r.1 (string_bytes read) r.3.0 r.2;
    more = subst (λ (n : Name). HoldsMore old.files FILE_LIMIT n) (sym r.3.0) (subst (λ (t : Option Files). HoldsMore t FILE_LIMIT r.1) told-between r.3.2);
    shelf = subst (λ (n : Name). GivesMore old new (map whole ((name, net) ∷ (kept, bytes) ∷ r.0)) FILE_LIMIT n) (sym r.3.0)
        (GivesMore-after old mid new (map whole ((name, net) ∷ (kept, bytes) ∷ [])) (map whole r.0) FILE_LIMIT r.1 only r.3.1);
  }
  inputs-stopped NoMemory may = MayRead-trans old mid new (may-read old mid _ only) may
  inputs-stopped Words r = absurd r.3
  inputs-stopped (Refused refusal) r = absurd r.3
  inputs-stopped (NoPart process) r = absurd r.3
  inputs-stopped (JournalRefused refusal) r = absurd r.3
  inputs-stopped (TapesRefused refusal) r = absurd r.3
  inputs-stopped (WriteFault written) r = absurd r.3

-- A journal that is no schedule of its network.
pub replay-stopped : (own : List KindSpec) (old new : Outside) (name kept bytes : Name) (journal : Journal) (plan : Network) (given : List (List ℕ)) (components : List AnyKind)
    → IsJournalFile old.files kept bytes journal → IsReady own old new name ((kept, bytes) ∷ []) plan given → AreComponents own plan given [] components
    → (stop : Stop) → StopsAgain plan components journal stop → StopsFor own old new name (Some kept) stop
replay-stopped own old new name kept bytes journal plan given components is_journal ready are (JournalRefused (Turn place p refusal)) s = record {
  kept = kept;
  keeps_is = refl;
  bytes = bytes;
  tells = journal;
  is_journal = is_journal;
  plan = plan;
  given = given;
  ready = ready;
  components = components;
  are_components = are;
  stops = s;
}
replay-stopped own old new name kept bytes journal plan given components is_journal ready are NoMemory s = may-read old new _ ready.reads
replay-stopped own old new name kept bytes journal plan given components is_journal ready are (JournalRefused (Byte place)) s = absurd s
replay-stopped own old new name kept bytes journal plan given components is_journal ready are Words s = absurd s
replay-stopped own old new name kept bytes journal plan given components is_journal ready are (Refused refusal) s = absurd s
replay-stopped own old new name kept bytes journal plan given components is_journal ready are (NoPart process) s = absurd s
replay-stopped own old new name kept bytes journal plan given components is_journal ready are (TapesRefused refusal) s = absurd s
replay-stopped own old new name kept bytes journal plan given components is_journal ready are (ReadFault read) s = absurd s
replay-stopped own old new name kept bytes journal plan given components is_journal ready are (WriteFault written) s = absurd s
replay-stopped own old new name kept bytes journal plan given components is_journal ready are (TooLong read) s = absurd s
