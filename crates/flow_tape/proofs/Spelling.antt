-- The fields of a file are the file; and tapes that fit their fields are those that have a file.
use Rattle.flow_limits.specs.declared.TheConstants.{PROCESS_LIMIT}
use Rattle.std.proofs.Common.{◌≡◌, ℕ, ◌≤◌, List, [], ◌∷◌, ◌++◌, length, map, slice_get, Option, Some, None, Ok, suc, zero, refl, ap, sym, ◌∙◌, subst, append_assoc, append-nil}
use Rattle.std.specs.Int.{w16, w32, to_le_bytes}
use Rattle.std.specs.List.{flat_map, AllByRecursion}
use Rattle.std.proofs.lemmas.List.Concat.{flat_map-append}
use Rattle.flow_packet.specs.declared.packet.Kind.{Kind}
use Rattle.flow_packet.specs.declared.packet.Kind.TheVariants as kinds
use Rattle.flow_component.specs.declared.Answer.{Answer}
use Rattle.flow_component.specs.declared.Answer.TheVariants as answers
use Rattle.flow_component.specs.declared.Wish.TheVariants as wishes
use Rattle.flow_component.specs.declared.OwnFail.TheVariants as owns
use Rattle.flow_own.specs.declared.tape.End.{End}
use Rattle.flow_own.specs.declared.tape.End.TheVariants as ends
use Rattle.flow_own.specs.declared.tape.Entry.{Entry}
use Rattle.flow_own.specs.Acts.{Made}
use Rattle.flow_own.specs.Recorded.{IsShort, IsEntryWritable, IsTapeWritable}
use Rattle.flow_tape.specs.Files.{name, four, eight, answer_written, made_written, dropped_written, end_written, entry_written, tape_written, written, IsWritable}
use Rattle.flow_tape.specs.Fields.{Field, Letter, Number, Last, bytes_of, spelled, IsWhole, any_eight, answer_fields, made_fields, dropped_fields, end_fields, entry_fields, tape_fields, inner_fields, fields_of}
use Rattle.flow_tape.specs.Faults.{AreCutUp}
use Rattle.flow_own.specs.Reading.{many_at, entry_at}
use Rattle.flow_tape.proofs.Readers.{AreBytes, Fits, whole-join, whole-cut}
use Rattle.flow_tape.proofs.ManyReaders.{whole-letters}
use Rattle.flow_tape.proofs.EntryReaders.{OfPart, AreOfParts, entries-taken}

-- ---- the fields are the file

spelled-answer : (a : Answer) → spelled (answer_fields a) ≡ answer_written a
spelled-answer answers.Start = refl
spelled-answer (answers.Got id) = refl
spelled-answer answers.End = refl
spelled-answer answers.Sent = refl
spelled-answer (answers.Level level) = refl

spelled-packet : (kind : Kind) (text : List ℕ) → spelled (made_fields (Some (kind, text))) ≡ made_written (Some (kind, text))
spelled-packet kinds.Normal text = ap (λ (bs : List ℕ). 1 ∷ (four (length text) ++ bs)) (append-nil text)
spelled-packet kinds.Open text = ap (λ (bs : List ℕ). 2 ∷ (four (length text) ++ bs)) (append-nil text)
spelled-packet kinds.Close text = ap (λ (bs : List ℕ). 3 ∷ (four (length text) ++ bs)) (append-nil text)

spelled-made : (made : Option Made) → spelled (made_fields made) ≡ made_written made
spelled-made None = refl
spelled-made (Some made) = spelled-packet made.0 made.1

spelled-ids : (ids : List ℕ) → spelled (map any_eight ids) ≡ flat_map eight ids
spelled-ids [] = refl
spelled-ids (id ∷ ids) = ap (λ (bs : List ℕ). eight id ++ bs) (spelled-ids ids)

spelled-dropped : (ids : List ℕ) → spelled (dropped_fields ids) ≡ dropped_written ids
spelled-dropped ids = ap (λ (bs : List ℕ). to_le_bytes w16 (length ids) ++ bs) (spelled-ids ids)

spelled-end : (end : End) → spelled (end_fields end) ≡ end_written end
spelled-end (ends.Wish (wishes.Receive port)) = refl
spelled-end (ends.Wish (wishes.Send port id)) = refl
spelled-end (ends.Wish (wishes.Level port)) = refl
spelled-end (ends.Wish wishes.Deactivate) = refl
spelled-end (ends.Fail (owns.Own number)) = refl
spelled-end (ends.Fail (owns.Packet id)) = refl
spelled-end (ends.Fail (owns.Port port)) = refl
spelled-end (ends.Fail owns.TapeLimit) = refl
spelled-end (ends.Fail owns.Differs) = refl

spelled-entry : (entry : Entry) → spelled (entry_fields entry) ≡ entry_written entry
spelled-entry entry =
    let a : List Field = answer_fields entry.answer in
    let m : List Field = made_fields entry.made in
    let d : List Field = dropped_fields entry.dropped in
    let e : List Field = end_fields entry.end in
    let parts : spelled (a ++ (m ++ (d ++ e))) ≡ spelled a ++ (spelled m ++ (spelled d ++ spelled e)) =
    flat_map-append bytes_of a (m ++ (d ++ e)) ∙ ap (λ (bs : List ℕ). spelled a ++ bs) (flat_map-append bytes_of m (d ++ e) ∙ ap (λ (bs : List ℕ). spelled m ++ bs) (flat_map-append bytes_of d e)) in
    let same : spelled a ++ (spelled m ++ (spelled d ++ spelled e)) ≡ answer_written entry.answer ++ (made_written entry.made ++ (dropped_written entry.dropped ++ end_written entry.end)) =
    λ i. spelled-answer entry.answer i ++ (spelled-made entry.made i ++ (spelled-dropped entry.dropped i ++ spelled-end entry.end i)) in
    let joined : answer_written entry.answer ++ (made_written entry.made ++ (dropped_written entry.dropped ++ end_written entry.end)) ≡ entry_written entry =
    sym (append_assoc (answer_written entry.answer ++ made_written entry.made) (dropped_written entry.dropped) (end_written entry.end) ∙ append_assoc (answer_written entry.answer) (made_written entry.made) (dropped_written entry.dropped ++ end_written entry.end)) in
    parts ∙ same ∙ joined

spelled-each : {X : Type 0} (fields : X → List Field) (bytes : X → List ℕ) → ((x : X) → spelled (fields x) ≡ bytes x) → (xs : List X) → spelled (flat_map fields xs) ≡ flat_map bytes xs
spelled-each fields bytes each [] = refl
spelled-each fields bytes each (x ∷ xs) = flat_map-append bytes_of (fields x) (flat_map fields xs) ∙ (λ i. each x i ++ spelled-each fields bytes each xs i)

-- Entries that are read with some bytes behind them are written as the bytes before those.
pub entries-written : (entries : List Entry) (own rest : List ℕ) → AreBytes (own ++ rest) → many_at entry_at (length entries) (own ++ rest) ≡ Ok (entries, rest)
    → AllByRecursion IsWhole (flat_map entry_fields entries) × (own ≡ flat_map entry_written entries)
entries-written entries own rest small e =
    let t = entries-taken entries own rest small e in
    (t.0, t.1 ∙ spelled-each entry_fields entry_written spelled-entry entries)

spelled-tape : (tape : List Entry) → spelled (tape_fields tape) ≡ tape_written tape
spelled-tape tape = ap (λ (bs : List ℕ). four (length tape) ++ bs) (spelled-each entry_fields entry_written spelled-entry tape)

pub spelled-inner : (tapes : List (List Entry)) → spelled (inner_fields tapes) ≡ written tapes
spelled-inner tapes =
    ap (λ (bs : List ℕ). name ++ (four (length tapes) ++ bs)) (spelled-each tape_fields tape_written spelled-tape tapes) ∙ sym (append_assoc name (four (length tapes)) (flat_map tape_written tapes))

-- The fields of a file, its end among them, are the file.
pub cut-up : AreCutUp
cut-up tapes = flat_map-append bytes_of (inner_fields tapes) _ ∙ append-nil (spelled (inner_fields tapes)) ∙ spelled-inner tapes

-- ---- tapes that have a file

entries-of-parts : (tape : List Entry) → ((k : ℕ) (entry : Entry) → slice_get tape k ≡ Some entry → IsEntryWritable entry) → AllByRecursion OfPart tape
entries-of-parts [] each = tt
entries-of-parts (e ∷ tape) each = ((each 0 e refl).of_part, entries-of-parts tape (λ k entry at. each (suc k) entry at))

each-of-parts : (tapes : List (List Entry)) → ((k : ℕ) (tape : List Entry) → slice_get tapes k ≡ Some tape → IsTapeWritable tape) → AreOfParts tapes
each-of-parts [] each = tt
each-of-parts (t ∷ tapes) each = (entries-of-parts t (each 0 t refl).each, each-of-parts tapes (λ k tape at. each (suc k) tape at))

-- What has a file is of parts.
pub of-parts : (tapes : List (List Entry)) → IsWritable tapes → AreOfParts tapes
of-parts tapes writable = each-of-parts tapes writable.each

short-of : (made : Option Made) → AllByRecursion IsWhole (made_fields made) → IsShort made
short-of None whole = tt
short-of (Some made) whole = whole.1.0

entry-writable : (entry : Entry) → AllByRecursion IsWhole (entry_fields entry) → OfPart entry → IsEntryWritable entry
entry-writable entry whole of =
    let a = whole-cut (answer_fields entry.answer) (made_fields entry.made ++ (dropped_fields entry.dropped ++ end_fields entry.end)) whole in
    let m = whole-cut (made_fields entry.made) (dropped_fields entry.dropped ++ end_fields entry.end) a.1 in
    record { short = short-of entry.made m.0; few = m.1.0; of_part = of }

entries-writable : (tape : List Entry) → AllByRecursion IsWhole (flat_map entry_fields tape) → AllByRecursion OfPart tape → (k : ℕ) (entry : Entry) → slice_get tape k ≡ Some entry → IsEntryWritable entry
entries-writable [] whole of k entry at = absurd (cc)
entries-writable (e ∷ tape) whole of zero entry at =
    let same : e ≡ entry = cc in
    subst IsEntryWritable same (entry-writable e (whole-cut (entry_fields e) (flat_map entry_fields tape) whole).0 of.0)
entries-writable (e ∷ tape) whole of (suc k) entry at = entries-writable tape (whole-cut (entry_fields e) (flat_map entry_fields tape) whole).1 of.1 k entry at

tape-writable : (tape : List Entry) → AllByRecursion IsWhole (tape_fields tape) → AllByRecursion OfPart tape → IsTapeWritable tape
tape-writable tape whole of = record { few = whole.0; each = entries-writable tape whole.1 of }

tapes-writable : (tapes : List (List Entry)) → AllByRecursion IsWhole (flat_map tape_fields tapes) → AreOfParts tapes → (k : ℕ) (tape : List Entry) → slice_get tapes k ≡ Some tape → IsTapeWritable tape
tapes-writable [] whole of k tape at = absurd (cc)
tapes-writable (t ∷ tapes) whole of zero tape at =
    let same : t ≡ tape = cc in
    subst IsTapeWritable same (tape-writable t (whole-cut (tape_fields t) (flat_map tape_fields tapes) whole).0 of.0)
tapes-writable (t ∷ tapes) whole of (suc k) tape at = tapes-writable tapes (whole-cut (tape_fields t) (flat_map tape_fields tapes) whole).1 of.1 k tape at

-- Tapes whose fields hold what they may, and that are of parts, have a file.
pub writable-of : (tapes : List (List Entry)) → Fits inner_fields AreOfParts tapes → IsWritable tapes
writable-of tapes fits =
    let whole = (whole-cut (map Letter name) (Number w32 PROCESS_LIMIT (length tapes) ∷ flat_map tape_fields tapes) fits.0).1 in
    record { few = whole.0; each = tapes-writable tapes whole.1 fits.1 }

-- The fields of a file hold what they may where those of its tapes do.
pub whole-file : (tapes : List (List Entry)) → length tapes ≤ PROCESS_LIMIT → AllByRecursion IsWhole (flat_map tape_fields tapes) → AllByRecursion IsWhole (fields_of tapes)
whole-file tapes few whole =
    whole-join (inner_fields tapes) (Last ∷ []) (whole-join (map Letter name) (Number w32 PROCESS_LIMIT (length tapes) ∷ flat_map tape_fields tapes) (whole-letters name) (few, whole)) (tt, tt)

-- ---- tapes in two parts

-- The bytes of two lists are of bytes.
pub bytes-both : (a b : List ℕ) → AreBytes a → AreBytes b → AreBytes (a ++ b)
bytes-both [] b first second i = second i
bytes-both (x ∷ a) b first second zero = first 0
bytes-both (x ∷ a) b first second (suc i) = bytes-both a b (λ k. first (suc k)) second i

-- The entries behind others have a place in a file where all have.
pub writable-behind : (front entries : List Entry) → ((k : ℕ) (entry : Entry) → slice_get (front ++ entries) k ≡ Some entry → IsEntryWritable entry)
    → (k : ℕ) (entry : Entry) → slice_get entries k ≡ Some entry → IsEntryWritable entry
writable-behind [] entries each = each
writable-behind (x ∷ front) entries each = writable-behind front entries (λ k entry is. each (suc k) entry is)

-- So are they written one behind the other.
pub written-both : (front entries tape : List Entry) → tape ≡ front ++ entries → flat_map entry_written tape ≡ flat_map entry_written front ++ flat_map entry_written entries
written-both front entries tape is = ap (flat_map entry_written) is ∙ flat_map-append entry_written front entries

pub whole-both : (front entries tape : List Entry) → tape ≡ front ++ entries → AllByRecursion IsWhole (flat_map entry_fields front) → AllByRecursion IsWhole (flat_map entry_fields entries)
    → AllByRecursion IsWhole (flat_map entry_fields tape)
whole-both front entries tape is first second =
    subst (AllByRecursion IsWhole) (sym (ap (flat_map entry_fields) is ∙ flat_map-append entry_fields front entries)) (whole-join (flat_map entry_fields front) (flat_map entry_fields entries) first second)
