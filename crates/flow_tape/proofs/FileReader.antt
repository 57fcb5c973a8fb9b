-- The reader of a whole file gives the tapes whose file it is, or stops at its fault; and the laws of files.
use Rattle.std.proofs.Common.{◌≡◌, inl, inr, ℕ, ◌+◌, ◌<◌, ◌≤◌, Bool, true, false, cond, eqb, List, [], ◌∷◌, ◌++◌, length, take, Result, Ok, Err, refl, ap, sym, ◌∙◌, subst, append_assoc, append-nil, arith, length-append}
use Rattle.std.specs.Int.{Width, w8, w16, w32, w64, w128, byte_len, to_le_bytes, from_le_bytes}
use Rattle.std.specs.List.{AllByRecursion}
use Rattle.std.proofs.lemmas.Bool.{eqb-true, eqb-false, ne_eqb}
use Rattle.std.proofs.lemmas.List.{nil_from_length, take-append-le}
use Rattle.flow_own.specs.declared.tape.Entry.{Entry}
use Rattle.flow_tape.specs.Files.{written}
use Rattle.flow_tape.specs.Fields.{Field, Letter, Number, Text, Last, bytes_of, spelled, IsWhole, MayStand, inner_fields, fields_of}
use Rattle.flow_tape.specs.Faults.{IsFileOf, Misses, ends, differs, IsFault, HasOneList, HasTapesOrFault, HasOneFault, BeginsNoFile}
use Rattle.flow_own.specs.Reading.{◌>>=◌}
use Rattle.flow_tape.specs.Reading.{tapes_at, file_at}
use Rattle.flow_own.proofs.Many.{bind_ok, ok_is}
use Rattle.flow_tape.proofs.Readers.{AreBytes, Fits, Lacks, short, other, FaultIn, bind_err, whole-join, whole-cut, cut-cases, cut-one}
use Rattle.flow_tape.proofs.EntryReaders.{AreOfParts, tapes-reads}
use Rattle.flow_tape.proofs.Spelling.{spelled-inner, of-parts, writable-of}

-- ---- the end of the file

ended : (b : Bool) (n : ℕ) (x y : List (List Entry)) → cond b (Ok x) (Err n) ≡ Ok y → (b ≡ true) × (x ≡ y)
ended true n x y e = (refl, cc)
ended false n x y e = absurd cc

goes-on : (b : Bool) (n : ℕ) (x : List (List Entry)) (left : ℕ) → cond b (Ok x) (Err n) ≡ Err left → (b ≡ false) × (left ≡ n)
goes-on true n x left e = absurd cc
goes-on false n x left e = (refl, cc)

no-length : (bytes : List ℕ) → (bytes ≡ [] → ⊥) → length bytes ≡ 0 → ⊥
no-length bytes some none = some (nil_from_length bytes none)

-- ---- tapes that fit their fields are those that have a file

fields-whole : (tapes : List (List Entry)) → AllByRecursion IsWhole (inner_fields tapes) → AllByRecursion IsWhole (fields_of tapes)
fields-whole tapes whole = whole-join (inner_fields tapes) (Last ∷ []) whole (tt, tt)

fits-of : (tapes : List (List Entry)) → AreOfParts tapes → AllByRecursion IsWhole (fields_of tapes) → Fits inner_fields AreOfParts tapes
fits-of tapes of whole = ((whole-cut (inner_fields tapes) (Last ∷ []) whole).0, of)

-- ---- what is read

-- What is read is the tapes whose file it is.
pub file-takes : (bytes : List ℕ) (tapes : List (List Entry)) → AreBytes bytes → file_at bytes ≡ Ok tapes → IsFileOf tapes bytes
unfolding file_at
file-takes bytes tapes small e =
    let a = bind_ok (tapes_at bytes) (λ x. cond (eqb (length x.1) 0) (Ok x.0) (Err (length x.1))) tapes e in
    let g = ended (eqb (length a.0.1) 0) (length a.0.1) a.0.0 tapes a.2 in
    let t = tapes-reads.takes bytes a.0 small a.1 in
    let nothing : a.0.1 ≡ [] = nil_from_length a.0.1 (eqb-true _ _ g.0) in
    let is : bytes ≡ written a.0.0 = t.1 ∙ ap (λ (r : List ℕ). spelled (inner_fields a.0.0) ++ r) nothing ∙ append-nil (spelled (inner_fields a.0.0)) ∙ spelled-inner a.0.0 in
    let file : IsFileOf a.0.0 bytes = record { writable = writable-of a.0.0 t.0; whole = fields-whole a.0.0 t.0.0; is = is } in
    subst (λ (x : List (List Entry)). IsFileOf x bytes) g.1 file

-- The file of tapes is read as these tapes.
pub file-again : (bytes : List ℕ) (tapes : List (List Entry)) → IsFileOf tapes bytes → file_at bytes ≡ Ok tapes
unfolding file_at
file-again bytes tapes file =
    let fits = fits-of tapes (of-parts tapes file.writable) file.whole in
    let is : bytes ≡ spelled (inner_fields tapes) ++ [] = file.is ∙ sym (spelled-inner tapes) ∙ sym (append-nil (spelled (inner_fields tapes))) in
    let read : tapes_at bytes ≡ Ok (tapes, []) = ap tapes_at is ∙ tapes-reads.again tapes [] fits in
    ap (λ (r : Result (List (List Entry) × List ℕ) ℕ). r >>= λ x. cond (eqb (length x.1) 0) (Ok x.0) (Err (length x.1))) read

-- ---- places

misses-of : (field : Field) (before rest : List ℕ) (left place : ℕ) → Lacks field rest left → place + left ≡ length (before ++ rest) → Misses field before rest place
misses-of field before rest left place (short less is) sum = ends less (omega (arith, is, sum))
misses-of field before rest left place (other enough not is) sum = differs enough not (omega (arith, is, sum, length-append before rest))

-- How many bytes there are behind a place.
pub record Behind (bytes : List ℕ) (place : ℕ) : Type 0 where
  pub left : ℕ
  pub sum : place + left ≡ length bytes

lacks-of : (field : Field) (before rest : List ℕ) (place : ℕ) → Misses field before rest place → (b : Behind (before ++ rest) place) × Lacks field rest b.left
lacks-of field before rest place (ends less is) = (record { left = 0; sum = omega (arith, is) }, short less refl)
lacks-of field before rest place (differs enough not is) = (record { left = length rest; sum = omega (arith, is, length-append before rest) }, other enough not refl)

-- ---- faults

-- the fault of a reader that stopped within the tapes
inner-fault : (bytes : List ℕ) (left place : ℕ) → FaultIn inner_fields AreOfParts bytes left → place + left ≡ length bytes → IsFault bytes place
inner-fault bytes left place f sum =
    let cut : fields_of f.value ≡ f.before ++ f.field ∷ (f.after ++ Last ∷ []) = ap (λ (fs : List Field). fs ++ Last ∷ []) f.cut ∙ append_assoc f.before (f.field ∷ f.after) (Last ∷ []) in
    record {
      tapes = f.value;
      writable = writable-of f.value f.fits;
      whole = fields-whole f.value f.fits.0;
      before = f.before;
      field = f.field;
      after = f.after ++ Last ∷ [];
      fields = cut;
      rest = f.rest;
      begins = f.begins;
      misses = misses-of f.field (spelled f.before) f.rest left place f.lacks (sum ∙ ap length f.begins);
    }

-- the fault of a reader that found more behind the tapes
last-fault : (bytes : List ℕ) (x : List (List Entry) × List ℕ) (place : ℕ) → Fits inner_fields AreOfParts x.0 → bytes ≡ spelled (inner_fields x.0) ++ x.1 → (x.1 ≡ [] → ⊥) → place + length x.1 ≡ length bytes → IsFault bytes place
last-fault bytes x place fits begins some sum =
    let lacks : Lacks Last x.1 (length x.1) = other (omega arith) some refl in
    record {
      tapes = x.0;
      writable = writable-of x.0 fits;
      whole = fields-whole x.0 fits.0;
      before = inner_fields x.0;
      field = Last;
      after = [];
      fields = refl;
      rest = x.1;
      begins = begins;
      misses = misses-of Last (spelled (inner_fields x.0)) x.1 (length x.1) place lacks (sum ∙ ap length begins);
    }

more-left : (bytes : List ℕ) → eqb (length bytes) 0 ≡ false → bytes ≡ [] → ⊥
more-left bytes apart none = eqb-false _ _ apart (ap length none)

-- Where reading stops, there is the fault.
pub file-faults : (bytes : List ℕ) (left place : ℕ) → AreBytes bytes → file_at bytes ≡ Err left → place + left ≡ length bytes → IsFault bytes place
unfolding file_at
file-faults bytes left place small e sum =
    elim (bind_err (tapes_at bytes) (λ x. cond (eqb (length x.1) 0) (Ok x.0) (Err (length x.1))) left e) [
      | inl stopped ↦ inner-fault bytes left place (tapes-reads.faults bytes left small stopped) sum
      | inr went ↦
          let g = goes-on (eqb (length went.0.1) 0) (length went.0.1) went.0.0 left went.2 in
          let t = tapes-reads.takes bytes went.0 small went.1 in
          last-fault bytes went.0 place t.0 t.1 (more-left went.0.1 g.0) (omega (arith, sum, g.1))
    ]

lacks-within : (field : Field) (rest : List ℕ) (left : ℕ) → Lacks field rest left → left ≤ length rest
lacks-within field rest left (short less is) = omega (arith, is)
lacks-within field rest left (other enough not is) = omega (arith, is)

-- No more bytes are left than there are.
pub left-within : (bytes : List ℕ) (left : ℕ) → AreBytes bytes → file_at bytes ≡ Err left → left ≤ length bytes
unfolding file_at
left-within bytes left small e =
    elim (bind_err (tapes_at bytes) (λ x. cond (eqb (length x.1) 0) (Ok x.0) (Err (length x.1))) left e) [
      | inl stopped ↦
          let f = tapes-reads.faults bytes left small stopped in
          omega (arith, lacks-within f.field f.rest left f.lacks, ap length f.begins, length-append (spelled f.before) f.rest)
      | inr went ↦
          let g = goes-on (eqb (length went.0.1) 0) (length went.0.1) went.0.0 left went.2 in
          let t = tapes-reads.takes bytes went.0 small went.1 in
          omega (arith, g.1, ap length t.1, length-append (spelled (inner_fields went.0.0)) went.0.1)
    ]

-- more stands behind the tapes
last-exact : (tapes : List (List Entry)) (rest : List ℕ) (left : ℕ) → Fits inner_fields AreOfParts tapes → Lacks Last rest left → file_at (spelled (inner_fields tapes) ++ rest) ≡ Err left
unfolding file_at
last-exact tapes rest left fits (short less is) = absurd (omega (arith, less))
last-exact tapes rest left fits (other enough not is) =
    let apart : eqb (length rest) 0 ≡ false = ne_eqb (length rest) 0 (no-length rest not) in
    ap (λ (r : Result (List (List Entry) × List ℕ) ℕ). r >>= λ x. cond (eqb (length x.1) 0) (Ok x.0) (Err (length x.1))) (tapes-reads.again tapes rest fits) ∙ rw apart (ap (λ (n : ℕ). Err n) (sym is))

inner-exact : (bytes : List ℕ) (left : ℕ) → FaultIn inner_fields AreOfParts bytes left → file_at bytes ≡ Err left
unfolding file_at
inner-exact bytes left f =
    ap (λ (r : Result (List (List Entry) × List ℕ) ℕ). r >>= λ x. cond (eqb (length x.1) 0) (Ok x.0) (Err (length x.1))) (tapes-reads.exact bytes left f)

-- At a fault reading stops.
pub file-exact : (bytes : List ℕ) (place : ℕ) → IsFault bytes place → (b : Behind bytes place) × (file_at bytes ≡ Err b.left)
file-exact bytes place f =
    let l = lacks-of f.field (spelled f.before) f.rest place f.misses in
    let behind : Behind bytes place = record { left = l.0.left; sum = l.0.sum ∙ sym (ap length f.begins) } in
    let fits = fits-of f.tapes (of-parts f.tapes f.writable) f.whole in
    elim (cut-cases (inner_fields f.tapes) (Last ∷ []) f.before f.field f.after f.fields) [
      | inl here ↦
          let at : FaultIn inner_fields AreOfParts bytes l.0.left = record { value = f.tapes; fits = fits; before = f.before; field = f.field; after = here.0; cut = here.1; rest = f.rest; begins = f.begins; lacks = l.1 } in
          (behind, inner-exact bytes l.0.left at)
      | inr after ↦
          let one = cut-one Last after.0 f.field f.after after.2 in
          let is : bytes ≡ spelled (inner_fields f.tapes) ++ f.rest = f.begins ∙ ap (λ (fs : List Field). spelled fs ++ f.rest) (after.1 ∙ ap (λ (fs : List Field). inner_fields f.tapes ++ fs) one.0 ∙ append-nil (inner_fields f.tapes)) in
          let lacks : Lacks Last f.rest l.0.left = subst (λ (x : Field). Lacks x f.rest l.0.left) one.1 l.1 in
          (behind, ap file_at is ∙ last-exact f.tapes f.rest l.0.left fits lacks)
    ]

-- ---- laws

-- Bytes are the file of one list of tapes.
pub one-list : HasOneList
one-list bytes s t first second = ok_is s t (sym (file-again bytes s first) ∙ file-again bytes t second)

apart : (tapes : List (List Entry)) (left : ℕ) → ◌≡◌ {A = Result (List (List Entry)) ℕ} (Ok tapes) (Err left) → ⊥
apart tapes left e = cc

-- A file has no fault.
pub tapes-or-fault : HasTapesOrFault
tapes-or-fault bytes tapes place file fault =
    let f = file-exact bytes place fault in
    apart tapes f.0.left (sym (file-again bytes tapes file) ∙ f.1)

one-err : (m n : ℕ) → ◌≡◌ {A = Result (List (List Entry)) ℕ} (Err m) (Err n) → m ≡ n
one-err m n e = cc

-- Bytes have one fault at most.
pub one-fault : HasOneFault
one-fault bytes p q first second =
    let a = file-exact bytes p first in
    let b = file-exact bytes q second in
    let same : a.0.left ≡ b.0.left = one-err a.0.left b.0.left (sym a.1 ∙ b.1) in
    omega (arith, a.0.sum, b.0.sum, same)

long-as : (width : Width) (n : ℕ) → length (to_le_bytes width n) ≡ byte_len width
long-as w8 n = refl
long-as w16 n = refl
long-as w32 n = refl
long-as w64 n = refl
long-as w128 n = refl

-- what can't stand there can't with more behind it
still-not : (field : Field) (rest more : List ℕ) → length (bytes_of field) ≤ length rest → ¬ MayStand field rest → ¬ MayStand field (rest ++ more)
still-not (Letter byte) rest more enough not may =
    let front : take 1 (rest ++ more) ≡ take 1 rest = take-append-le 1 rest more enough in
    not (sym front ∙ may)
still-not (Number width most number) rest more enough not may =
    let long : byte_len width ≤ length rest = omega (arith, enough, long-as width number) in
    let front : take (byte_len width) (rest ++ more) ≡ take (byte_len width) rest = take-append-le (byte_len width) rest more long in
    not (subst (λ (b : List ℕ). from_le_bytes width b ≤ most) front may)
still-not (Text bytes) rest more enough not may = not tt
still-not Last [] more enough not may = not refl
still-not Last (b ∷ rest) more enough not may = absurd (cc)

more-misses : (field : Field) (before rest more : List ℕ) (place : ℕ) → place < length (before ++ rest) → Misses field before rest place → Misses field before (rest ++ more) place
more-misses field before rest more place within (ends less is) = absurd (omega (arith, within, is))
more-misses field before rest more place within (differs enough not is) = differs (omega (arith, enough, length-append rest more)) (still-not field rest more enough not) is

-- Bytes with a fault that isn't their end begin no file.
pub begins-none : BeginsNoFile
begins-none bytes more tapes place fault within file =
    let longer : bytes ++ more ≡ spelled fault.before ++ (fault.rest ++ more) = ap (λ (b : List ℕ). b ++ more) fault.begins ∙ append_assoc (spelled fault.before) fault.rest more in
    let at : place < length (spelled fault.before ++ fault.rest) = omega (arith, within, ap length fault.begins) in
    let too : IsFault (bytes ++ more) place = record {
      tapes = fault.tapes;
      writable = fault.writable;
      whole = fault.whole;
      before = fault.before;
      field = fault.field;
      after = fault.after;
      fields = fault.fields;
      rest = fault.rest ++ more;
      begins = longer;
      misses = more-misses fault.field (spelled fault.before) fault.rest more place at fault.misses;
    } in
    tapes-or-fault (bytes ++ more) tapes place file too
