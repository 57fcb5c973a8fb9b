-- The file of tapes that a replay names.
use Rattle.std.proofs.Common.{◌≡◌, ◌∙◌, ℕ, [], ◌∷◌, length, Some, None, Ok, Err, refl, sym, ap}
use Rattle.std.specs.Prelude.{◌≢◌, Vec}
use Rattle.std.specs.declared.alloc.Global.{Global}
use Rattle.flow_text.specs.Edge.{Outside, Name}
use Rattle.flow_text.specs.declared.all.ReadStop.{ReadStop}
use Rattle.flow_text.specs.declared.all.ReadStop.TheVariants as reads
use Rattle.flow_tape.specs.Faults.{IsFileOf}
use Rattle.flow_tape.specs.Counts.{IsFileOfSoMany}
use Rattle.flow_tape.specs.declared.TheConstants.{TAPE_FILE_LIMIT}
use Rattle.flow_load.specs.Step.{OnlyReads, IsRead, ReadsFile, whole}
use Rattle.flow_load.specs.Offers.{Taped}
use Rattle.flow_load.specs.Stops.{IsReadStop}
use Rattle.flow_load.specs.Prepare.{ReadsTapes}
use Rattle.flow_load.specs.declared.stop.TapesRefusal.TheVariants as faults
use Rattle.flow_load.specs.declared.stop.Stop.{Stop}
use Rattle.flow_load.specs.declared.stop.Stop.TheVariants.{Words, Refused, NoPart, JournalRefused, TapesRefused, ReadFault, WriteFault, TooLong, NoMemory}
use Rattle.flow_load.proofs.Steps.{no-reads, may-read, may-fail-to-read}

-- Where no file is named none is read, and there are no tapes.
pub none-named : (old new : Outside) (wanted : ℕ) → new ≡ old → (tapes : Vec Taped Global) → tapes.items ≡ [] → wanted ≡ 0 → ReadsTapes wanted old new None (Ok tapes)
none-named old new wanted same tapes none are = ([], no-reads old new same, (refl, none), ap length none ∙ sym are)

-- Where some are wanted they are too few.
pub none-counted : (old new : Outside) (wanted : ℕ) → new ≡ old → 0 ≢ wanted → ReadsTapes wanted old new None (Err (TapesRefused (faults.Count 0)))
none-counted old new wanted same differs = ([], [], no-reads old new same, (refl, refl), refl, differs)

-- the file of these tapes
pub tapes-read : (old new : Outside) (wanted : ℕ) (name bytes : Name) (tapes : Vec Taped Global) → OnlyReads old new (whole (name, bytes) ∷ []) → IsRead old.files TAPE_FILE_LIMIT (name, bytes) → IsFileOf tapes.items bytes
    → length tapes.items ≡ wanted → ReadsTapes wanted old new (Some name) (Ok tapes)
tapes-read old new wanted name bytes tapes only read is are = ((name, bytes) ∷ [], only, (bytes, record { read = read; is = is }, refl), are)

-- the file of another number of tapes
pub tapes-counted : (old new : Outside) (wanted : ℕ) (name bytes : Name) (number : ℕ) → OnlyReads old new (whole (name, bytes) ∷ []) → IsRead old.files TAPE_FILE_LIMIT (name, bytes) → IsFileOfSoMany number bytes → number ≢ wanted
    → ReadsTapes wanted old new (Some name) (Err (TapesRefused (faults.Count number)))
tapes-counted old new wanted name bytes number only read many differs = ((name, bytes) ∷ [], many.tapes, only, (bytes, record { read = read; is = many.file }, refl), many.number_is, differs)

-- The stop of a read of the file is that of reading tapes.
pub tapes-unread : (old new : Outside) (wanted : ℕ) (name : Name) (why : ReadStop) (stop : Stop) → ReadsFile old new TAPE_FILE_LIMIT (Err why) name → IsReadStop why name stop → ReadsTapes wanted old new (Some name) (Err stop)
tapes-unread old new wanted name reads.Fault (ReadFault read) r is = (is, r)
tapes-unread old new wanted name (reads.TooLong told) (TooLong read) r is = (is, r.0, r.1)
tapes-unread old new wanted name reads.NoMemory NoMemory r is = r
tapes-unread old new wanted name reads.Fault NoMemory r is = may-fail-to-read old new r.0 name r.2
tapes-unread old new wanted name (reads.TooLong told) NoMemory r is = may-read old new _ r.0.2
tapes-unread old new wanted name reads.Fault Words r is = absurd is
tapes-unread old new wanted name reads.Fault (Refused refusal) r is = absurd is
tapes-unread old new wanted name reads.Fault (NoPart process) r is = absurd is
tapes-unread old new wanted name reads.Fault (JournalRefused refusal) r is = absurd is
tapes-unread old new wanted name reads.Fault (TapesRefused refusal) r is = absurd is
tapes-unread old new wanted name reads.Fault (WriteFault written) r is = absurd is
tapes-unread old new wanted name reads.Fault (TooLong read) r is = absurd is
tapes-unread old new wanted name (reads.TooLong told) Words r is = absurd is
tapes-unread old new wanted name (reads.TooLong told) (Refused refusal) r is = absurd is
tapes-unread old new wanted name (reads.TooLong told) (NoPart process) r is = absurd is
tapes-unread old new wanted name (reads.TooLong told) (JournalRefused refusal) r is = absurd is
tapes-unread old new wanted name (reads.TooLong told) (TapesRefused refusal) r is = absurd is
tapes-unread old new wanted name (reads.TooLong told) (ReadFault read) r is = absurd is
tapes-unread old new wanted name (reads.TooLong told) (WriteFault written) r is = absurd is
tapes-unread old new wanted name reads.NoMemory Words r is = absurd is
tapes-unread old new wanted name reads.NoMemory (Refused refusal) r is = absurd is
tapes-unread old new wanted name reads.NoMemory (NoPart process) r is = absurd is
tapes-unread old new wanted name reads.NoMemory (JournalRefused refusal) r is = absurd is
tapes-unread old new wanted name reads.NoMemory (TapesRefused refusal) r is = absurd is
tapes-unread old new wanted name reads.NoMemory (ReadFault read) r is = absurd is
tapes-unread old new wanted name reads.NoMemory (WriteFault written) r is = absurd is
tapes-unread old new wanted name reads.NoMemory (TooLong read) r is = absurd is
