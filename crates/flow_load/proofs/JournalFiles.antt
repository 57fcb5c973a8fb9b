-- A journal's file: its header is read, and then its body.
use Rattle.std.proofs.Common.{◌≡◌, inr, ℕ, ◌+◌, ◌≤◌, Bool, true, false, List, [], ◌∷◌, ◌++◌, length, take, Some, None, Ok, Err, refl, sym, ◌∙◌, ap, subst, arith}
use Rattle.std.specs.Prelude.{max, nat_lt, Vec}
use Rattle.std.specs.declared.alloc.Global.{Global}
use Rattle.std.specs.declared.option.Option.{Option}
use Rattle.std.specs.Io.KnownBytes.{Consumes, IsAtEnd}
use Rattle.std.proofs.lemmas.Bool.Decides.{nat_tests}
use Rattle.std.proofs.lemmas.List.{length-append, length-take-le, length-take, take_all}
use mathlib.Core.List.{append-nil}
use Rattle.flow_text.specs.Edge.{Outside, Name, Files, Logged, IsHeld, after_open}
use Rattle.flow_text.specs.ReadAll.{Took, TookAndFailed, ReadsAll}
use Rattle.flow_text.specs.declared.all.ReadStop.TheVariants as reads
use Rattle.flow_text.specs.declared.edge.Fault.{Fault}
use Rattle.flow_text.proofs.Pieces.{Took-trans, Failed-after}
use Rattle.flow_journal.specs.declared.file.TheConstants.{HEADER_LENGTH}
use Rattle.flow_journal.specs.declared.header.Header.{Header}
use Rattle.flow_journal.specs.declared.merge.Journal.{Journal}
use Rattle.flow_journal.specs.Files.{IsFault, IsFileOf, IsHeaderFault, body_length, header_written}
use Rattle.flow_journal.proofs.HeaderLemmas.{ends-at, file-bound, goes-on-fault}
use Rattle.flow_load.specs.Front.{ReadsFront}
use Rattle.flow_load.specs.Step.{FailsToRead, Unended, IsFrontOf, partly}
use Rattle.flow_load.specs.Stops.{IsReadStop}
use Rattle.flow_load.specs.Prepare.{ReadsJournal}
use Rattle.flow_load.specs.declared.stop.JournalRefusal.TheVariants.{Byte}
use Rattle.flow_load.specs.declared.stop.Stop.{Stop}
use Rattle.flow_load.specs.declared.stop.Stop.TheVariants.{Words, Refused, NoPart, JournalRefused, TapesRefused, ReadFault, WriteFault, TooLong, NoMemory}
use Rattle.flow_load.proofs.Steps.{failed, gave, held-all, may-fail-to-read}

-- what a source gave stands in front of what the name holds
held-front : (told : Option Files) (name : Name) (left after : Option (List ℕ)) (bytes : List ℕ) (ended : Bool) → IsHeld told name left → Consumes left after bytes → (ended ≡ true → IsAtEnd after)
    → IsFrontOf told (record { name = name; bytes = bytes; ended = ended })
held-front None name left after bytes ended held gives end = tt
held-front (Some files) name None after bytes ended held gives end = absurd (let none = held.1 in cc)
held-front (Some files) name (Some xs) None bytes ended held gives end = absurd gives
held-front (Some files) name (Some xs) (Some ys) bytes ended held gives end = (ys, end, sym held.0 ∙ ap Some gives)

-- A read of the journal's file that failed, behind what it gave.
pub fault-stopped : (old new : Outside) (name : Name) (stop : Stop) (files : List Logged) → Unended name files → FailsToRead old new files name → IsReadStop reads.Fault name stop
    → ReadsJournal old new name (Err stop)
fault-stopped old new name (ReadFault read) files unended fails is = (is, (files, unended, fails))
fault-stopped old new name NoMemory files unended fails is = may-fail-to-read old new files name fails
fault-stopped old new name Words files unended fails is = absurd is
fault-stopped old new name (Refused refusal) files unended fails is = absurd is
fault-stopped old new name (NoPart process) files unended fails is = absurd is
fault-stopped old new name (TapesRefused refusal) files unended fails is = absurd is
fault-stopped old new name (JournalRefused refusal) files unended fails is = absurd is
fault-stopped old new name (WriteFault written) files unended fails is = absurd is
fault-stopped old new name (TooLong read) files unended fails is = absurd is

-- The stop that says where the fault is.
pub refused : (old new : Outside) (name : Name) (stop : Stop) (place : ℕ) → stop ≡ JournalRefused (Byte place) → ReadsJournal old new name (Err (JournalRefused (Byte place)))
    → ReadsJournal old new name (Err stop)
refused old new name stop place is reads = subst (λ (s : Stop). ReadsJournal old new name (Err s)) (sym is) reads

-- a front that holds a header is full of it
whole-front : (mid low : Outside) (buf : List ℕ) (count : ℕ) (header : Header) → ReadsFront {E = Fault} mid low (Ok count) buf → length buf ≡ HEADER_LENGTH
    → take HEADER_LENGTH (take count buf) ≡ header_written header.turns header.seen → Took mid low (header_written header.turns header.seen) false
whole-front mid low buf count header front room is =
    let long : length (take count buf) ≡ count = length-take-le count buf front.1 in
    let full : HEADER_LENGTH ≤ count = omega (arith, ap length is, length-take HEADER_LENGTH (take count buf), long) in
    let same : take count buf ≡ header_written header.turns header.seen = sym (take_all HEADER_LENGTH (take count buf) (omega (arith, long, front.1, room))) ∙ is in
    let unended : nat_lt count (length buf) ≡ false = grind (arith, nat_tests, full, room) in
    subst (λ (l : List ℕ). Took mid low l false) same (subst (λ (e : Bool). Took mid low (take count buf) e) unended front.0)

-- a file that was opened
module _ (old mid : Outside) (name : Name) (opens : mid ≡ after_open old name mid.left) where
  failed-there : (new : Outside) (bytes : List ℕ) (stop : Stop) → TookAndFailed mid new bytes → IsReadStop reads.Fault name stop → ReadsJournal old new name (Err stop)
  failed-there new bytes stop took is = fault-stopped old new name stop (partly bytes name ∷ []) (inr (bytes, refl)) (failed old mid new name opens bytes took.state took.rose) is

  -- A read of the header that failed.
  pub front-failed-there : (low : Outside) (buf : List ℕ) (fault : Fault) (stop : Stop) → ReadsFront {E = Fault} mid low (Err fault) buf → IsReadStop reads.Fault name stop
      → ReadsJournal old low name (Err stop)
  front-failed-there low buf fault stop front is = failed-there low front.0 stop front.1 is

  -- what was given shows a fault
  shown : IsHeld old.files name mid.left → (new : Outside) (bytes : List ℕ) (ended : Bool) (place : ℕ) → Took mid new bytes ended → (ended ≡ true → IsAtEnd new.left)
      → length bytes ≤ max HEADER_LENGTH (place + 1) → ((rest : List ℕ) → (ended ≡ true → rest ≡ []) → IsFault (bytes ++ rest) place) → ReadsJournal old new name (Err (JournalRefused (Byte place)))
  shown held new bytes ended place took end few fault = (
    record { name = name; bytes = bytes; ended = ended },
    gave old mid new name opens bytes ended took.state,
    record { named = refl; held = held-front old.files name mid.left new.left bytes ended held took.given end; few = few; fault = fault },
  )

  -- A header at fault.
  pub header-refused : IsHeld old.files name mid.left → (low : Outside) (buf : List ℕ) (count place : ℕ) → ReadsFront {E = Fault} mid low (Ok count) buf → length buf ≡ HEADER_LENGTH
      → IsHeaderFault (take count buf) place → ReadsJournal old low name (Err (JournalRefused (Byte place)))
  header-refused held low buf count place front room fault =
      let long : length (take count buf) ≡ count = length-take-le count buf front.1 in
      shown held low (take count buf) (nat_lt count (length buf)) place front.0
      (λ ended. front.2 (grind (arith, nat_tests, ended)))
      (omega (arith, long, front.1, room))
      (λ rest may. fault rest (λ short. may (grind (arith, nat_tests, long, room, short))))

  -- behind a sound header
  module _ (low : Outside) (buf : List ℕ) (count : ℕ) (header : Header) (front : ReadsFront {E = Fault} mid low (Ok count) buf) (room : length buf ≡ HEADER_LENGTH)
      (is : take HEADER_LENGTH (take count buf) ≡ header_written header.turns header.seen) where
    given : (new : Outside) (bytes : List ℕ) (ended : Bool) → Took low new bytes ended → Took mid new (header_written header.turns header.seen ++ bytes) ended
    given new bytes ended took = Took-trans mid low new (header_written header.turns header.seen) bytes false ended (whole-front mid low buf count header front room is) took

    -- The body was read whole.
    pub body-read : IsHeld old.files name mid.left → (new : Outside) (v : Vec ℕ Global) (limit : ℕ) (journal : Journal) → ReadsAll low new (Ok v) limit
        → IsFileOf journal (header_written header.turns header.seen ++ v.items) → ReadsJournal old new name (Ok journal)
    body-read held new v limit journal read of =
        let bytes : List ℕ = header_written header.turns header.seen ++ v.items in
        let all = given new v.items true read.0 in (
          bytes,
          gave old mid new name opens bytes true all.state,
          record { read = record { short = file-bound journal bytes of; held = held-all old.files name mid.left new.left bytes held all.given read.1 }; is = of },
        )

    -- The file ended too early.
    pub body-refused : IsHeld old.files name mid.left → (new : Outside) (v : Vec ℕ Global) (limit place : ℕ) → limit ≡ body_length header.turns header.seen → ReadsAll low new (Ok v) limit
        → IsFault (header_written header.turns header.seen ++ v.items) place → ReadsJournal old new name (Err (JournalRefused (Byte place)))
    body-refused held new v limit place limit_is read fault =
        let bytes : List ℕ = header_written header.turns header.seen ++ v.items in
        let at : place ≡ 16 + length v.items = ends-at header.turns header.seen v.items place header.few header.fewer (omega (arith, read.2, limit_is)) fault in
        shown held new bytes true place (given new v.items true read.0) (λ _. read.1) (omega (arith, at))
        (λ rest may. subst (λ (r : List ℕ). IsFault (bytes ++ r) place) (sym (may refl)) (subst (λ (b : List ℕ). IsFault b place) (sym (append-nil bytes)) fault))

    -- The file goes on behind what its header tells.
    pub body-longer : IsHeld old.files name mid.left → (new : Outside) (limit told place : ℕ) → limit ≡ body_length header.turns header.seen → ReadsAll low new (Err (reads.TooLong told)) limit
        → place ≡ HEADER_LENGTH + limit → ReadsJournal old new name (Err (JournalRefused (Byte place)))
    body-longer held new limit told place limit_is read at =
        let more = read.1 in
        let many : length more.0 ≡ body_length header.turns header.seen + 1 = more.2 ∙ ap (λ (n : ℕ). n + 1) limit_is in
        let here : HEADER_LENGTH + body_length header.turns header.seen ≡ place = omega (arith, at, limit_is) in
        shown held new (header_written header.turns header.seen ++ more.0) false place (given new more.0 false more.1) (λ ended. absurd cc) (omega (arith, many, here))
        (λ rest may. subst (λ (n : ℕ). IsFault (header_written header.turns header.seen ++ (more.0 ++ rest)) n) here
        (goes-on-fault header.turns header.seen (more.0 ++ rest) header.few header.fewer (omega (arith, many, length-append more.0 rest))))

    -- A read of the body failed.
    pub body-failed : (new : Outside) (limit : ℕ) (stop : Stop) → ReadsAll low new (Err reads.Fault) limit → IsReadStop reads.Fault name stop → ReadsJournal old new name (Err stop)
    body-failed new limit stop read why =
        failed-there new (header_written header.turns header.seen ++ read.0) stop
        (Failed-after mid low new (header_written header.turns header.seen) read.0 (whole-front mid low buf count header front room is) read.1) why
