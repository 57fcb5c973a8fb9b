-- How many tapes a file has, found by going over them; and with what the file of so many begins.
use Rattle.flow_limits.specs.declared.TheConstants.{PROCESS_LIMIT}
use Rattle.std.proofs.Common.{◌≡◌, inl, inr, ℕ, ◌<◌, ◌^◌, Bool, true, false, true≢false, cond, eqb, List, ◌++◌, length, Result, Ok, Err, refl, ap, sym, ◌∙◌, subst, append_assoc, append-nil, arith}
use Rattle.std.specs.Int.{w32}
use Rattle.std.specs.List.{flat_map}
use Rattle.flow_own.specs.declared.tape.Entry.{Entry}
use Rattle.flow_own.specs.declared.unread.Unread.{Unread}
use Rattle.flow_own.specs.declared.unread.Unread.TheVariants as stops
use Rattle.flow_own.specs.Reading.{Read, ◌>>=◌, StopsThere, behind, number_at, many_at}
use Rattle.flow_own.proofs.Many.{bind_ok, ok_is, many-long}
use Rattle.flow_own.proofs.Passes.{passed, unpassed, all_stop}
use Rattle.flow_tape.specs.Files.{name, four, tape_written}
use Rattle.flow_tape.specs.Fields.{spelled}
use Rattle.flow_tape.specs.Faults.{IsFileOf}
use Rattle.flow_tape.specs.Counts.{BeginsFileOf, IsFileOfSoMany, number_in}
use Rattle.flow_tape.specs.Reading.{letters_at, tape_at, tapes_at, file_at}
use Rattle.flow_tape.proofs.Readers.{AreBytes, bytes-after, bind_err}
use Rattle.flow_tape.proofs.FieldReaders.{number-reads, wide32}
use Rattle.flow_tape.proofs.ManyReaders.{letters_fields, letters-reads, whole-letters}
use Rattle.flow_tape.proofs.FileReader.{file-takes}

-- ---- going over all tapes

-- How many tapes were read, where nothing is behind them.
abbrev counted : Read (List (List Entry)) → Result ℕ ℕ
counted r = (r >>= λ tapes. cond (eqb (length tapes.1) 0) (Ok tapes.0) (Err (length tapes.1))) >>= λ tapes. Ok (length tapes)

number-is : (bytes : List ℕ) → number_in bytes ≡ counted (tapes_at bytes)
unfolding file_at
number-is bytes = refl

abbrev then_number : List ℕ → Read (List (List Entry))
then_number bytes = number_at w32 PROCESS_LIMIT bytes >>= λ count. many_at tape_at count.0 count.1

tapes-are : (bytes : List ℕ) → tapes_at bytes ≡ (letters_at name bytes >>= λ begin. then_number begin.1)
unfolding tapes_at
tapes-are bytes = refl

counted-stops : (stop : Unread) (r : Read (List (List Entry))) → StopsThere stop r → StopsThere stop (counted r)
counted-stops stop r e =
    all_stop stop (r >>= λ tapes. cond (eqb (length tapes.1) 0) (Ok tapes.0) (Err (length tapes.1))) (λ tapes. Ok (length tapes))
    (all_stop stop r (λ tapes. cond (eqb (length tapes.1) 0) (Ok tapes.0) (Err (length tapes.1))) e)

stops-in : (stop : Unread) (bytes : List ℕ) (r : Read (List (List Entry))) → tapes_at bytes ≡ r → StopsThere stop r → StopsThere stop (number_in bytes)
stops-in stop bytes r is e = subst (λ (n : Result ℕ ℕ). StopsThere stop n) (sym (number-is bytes ∙ ap counted is)) (counted-stops stop r e)

-- The name isn't there.
pub name_stops : (stop : Unread) (bytes : List ℕ) → StopsThere stop (letters_at name bytes) → StopsThere stop (number_in bytes)
name_stops stop bytes e = stops-in stop bytes (letters_at name bytes >>= λ begin. then_number begin.1) (tapes-are bytes) (all_stop stop (letters_at name bytes) (λ begin. then_number begin.1) e)

behind-name : (bytes one : List ℕ) → letters_at name bytes ≡ Ok (tt, one) → tapes_at bytes ≡ then_number one
behind-name bytes one e = tapes-are bytes ∙ ap (λ (r : Read (Unit {0})). r >>= λ begin. then_number begin.1) e

-- The number isn't there.
pub number_stops : (stop : Unread) (bytes one : List ℕ) → letters_at name bytes ≡ Ok (tt, one) → StopsThere stop (number_at w32 PROCESS_LIMIT one) → StopsThere stop (number_in bytes)
number_stops stop bytes one named e = stops-in stop bytes (then_number one) (behind-name bytes one named) (all_stop stop (number_at w32 PROCESS_LIMIT one) (λ count. many_at tape_at count.0 count.1) e)

behind-number : (bytes one two : List ℕ) (count : ℕ) → letters_at name bytes ≡ Ok (tt, one) → number_at w32 PROCESS_LIMIT one ≡ Ok (count, two) → tapes_at bytes ≡ many_at tape_at count two
behind-number bytes one two count named e = behind-name bytes one named ∙ ap (λ (r : Read ℕ). r >>= λ count. many_at tape_at count.0 count.1) e

-- A tape isn't there.
pub tapes_stop : (stop : Unread) (bytes one two : List ℕ) (count : ℕ) → letters_at name bytes ≡ Ok (tt, one) → number_at w32 PROCESS_LIMIT one ≡ Ok (count, two) → StopsThere stop (behind (many_at tape_at count two))
    → StopsThere stop (number_in bytes)
tapes_stop stop bytes one two count named number e = stops-in stop bytes (many_at tape_at count two) (behind-number bytes one two count named number) (unpassed stop (many_at tape_at count two) e)

-- All of them are there.
all-there : (bytes one two three : List ℕ) (count : ℕ) → letters_at name bytes ≡ Ok (tt, one) → number_at w32 PROCESS_LIMIT one ≡ Ok (count, two) → behind (many_at tape_at count two) ≡ Ok three
    → (tapes : List (List Entry)) × (length tapes ≡ count) × (number_in bytes ≡ counted (Ok (tapes, three)))
all-there bytes one two three count named number e =
    let p = passed (many_at tape_at count two) three e in
    (p.0, many-long tape_at count two p.0 three p.1, number-is bytes ∙ ap counted (behind-number bytes one two count named number ∙ p.1))

-- Something is behind them.
pub more_behind : (bytes one two three : List ℕ) (count : ℕ) → letters_at name bytes ≡ Ok (tt, one) → number_at w32 PROCESS_LIMIT one ≡ Ok (count, two) → behind (many_at tape_at count two) ≡ Ok three → eqb (length three) 0 ≡ false
    → number_in bytes ≡ Err (length three)
more_behind bytes one two three count named number e apart =
    let a = all-there bytes one two three count named number e in
    a.2 ∙ ended (length a.0) (length three) (eqb (length three) 0) a.0 apart refl
  where
    ended : (size left : ℕ) (b : Bool) (tapes : List (List Entry)) → b ≡ false → length tapes ≡ size → (cond b (Ok tapes) (Err left) >>= λ t. Ok (length t)) ≡ Err left
    ended size left true tapes other long = absurd (true≢false other)
    ended size left false tapes other long = refl

-- Nothing is.
pub so_many_there : (bytes one two three : List ℕ) (count : ℕ) → letters_at name bytes ≡ Ok (tt, one) → number_at w32 PROCESS_LIMIT one ≡ Ok (count, two) → behind (many_at tape_at count two) ≡ Ok three → eqb (length three) 0 ≡ true
    → number_in bytes ≡ Ok count
so_many_there bytes one two three count named number e same =
    let a = all-there bytes one two three count named number e in
    a.2 ∙ ended count (length three) (eqb (length three) 0) a.0 same a.1
  where
    ended : (size left : ℕ) (b : Bool) (tapes : List (List Entry)) → b ≡ true → length tapes ≡ size → (cond b (Ok tapes) (Err left) >>= λ t. Ok (length t)) ≡ Ok size
    ended size left true tapes is long = ap (λ (n : ℕ). Ok n) long
    ended size left false tapes is long = absurd (true≢false (sym is))

-- What is counted is the file of so many.
pub counted_file : (bytes : List ℕ) (number : ℕ) → AreBytes bytes → number_in bytes ≡ Ok number → IsFileOfSoMany number bytes
counted_file bytes number small e =
    let b = bind_ok (file_at bytes) (λ tapes. Ok (length tapes)) number e in
    record { tapes = b.0; file = file-takes bytes b.0 small b.1; number_is = sym (ok_is (length b.0) number b.2) }

-- Where counting stops, reading does.
pub uncounted : (bytes : List ℕ) (left : ℕ) → number_in bytes ≡ Err left → file_at bytes ≡ Err left
uncounted bytes left e =
    elim (bind_err (file_at bytes) (λ tapes. Ok (length tapes)) left e) [
      | inl stopped ↦ stopped
      | inr went ↦ absurd (let no = went.2 in cc)
    ]

-- ---- the number in front

-- With the name and this number there the bytes begin so.
pub told_begins : (bytes one two : List ℕ) (number : ℕ) → AreBytes bytes → letters_at name bytes ≡ Ok (tt, one) → number_at w32 4294967295 one ≡ Ok (number, two) → BeginsFileOf number bytes
told_begins bytes one two number small named told =
    let t = (letters-reads name).takes bytes (tt, one) small named in
    let small_one : AreBytes one = bytes-after (spelled (letters_fields name tt)) one (subst AreBytes t.1 small) in
    let u = (number-reads w32 4294967295 (2 ^ 32) wide32 (omega arith)).takes one (number, two) small_one told in
    record { rest = two; is = t.1 ∙ ap (λ (b : List ℕ). name ++ b) (u.1 ∙ ap (λ (b : List ℕ). b ++ two) (append-nil (four number))) }

-- Where they begin so, the name and the number are read.
pub begins_named : (bytes : List ℕ) (number : ℕ) → (b : BeginsFileOf number bytes) → letters_at name bytes ≡ Ok (tt, four number ++ b.rest)
begins_named bytes number b = ap (letters_at name) b.is ∙ (letters-reads name).again tt (four number ++ b.rest) (whole-letters name, tt)

begins-told : (number : ℕ) (rest : List ℕ) → number < 2 ^ 32 → number_at w32 4294967295 (four number ++ rest) ≡ Ok (number, rest)
begins-told number rest few =
    ap (λ (b : List ℕ). number_at w32 4294967295 (b ++ rest)) (sym (append-nil (four number))) ∙ (number-reads w32 4294967295 (2 ^ 32) wide32 (omega arith)).again number rest ((omega (arith, few), tt), tt)

behind-both : (one two : List ℕ) (r : Read (Unit {0})) → r ≡ Ok (tt, one) → r ≡ Ok (tt, two) → one ≡ two
behind-both one two r a b = ap (λ (x : Unit {0} × List ℕ). x.1) (ok_is (tt, one) (tt, two) (sym a ∙ b))

pub begins_numbered : (bytes one : List ℕ) (number : ℕ) → number < 2 ^ 32 → letters_at name bytes ≡ Ok (tt, one) → (b : BeginsFileOf number bytes) → number_at w32 4294967295 one ≡ Ok (number, b.rest)
begins_numbered bytes one number few named b =
    ap (number_at w32 4294967295) (behind-both one (four number ++ b.rest) (letters_at name bytes) named (begins_named bytes number b)) ∙ begins-told number b.rest few

-- What is read isn't where reading stops.
pub no_stop : {Y : Type 0} (stop : Unread) (r : Result Y ℕ) (y : Y) → StopsThere stop r → r ≡ Ok y → ⊥
no_stop (stops.Fault left) r y a b = apart left y (sym a ∙ b)
  where
    apart : {Y : Type 0} (left : ℕ) (y : Y) → ◌≡◌ {A = Result Y ℕ} (Err left) (Ok y) → ⊥
    apart left y e = cc
no_stop stops.NoMemory r y a b = a

-- The number that is read is the one that they begin with.
pub told_is : (bytes one two : List ℕ) (told number : ℕ) → number < 2 ^ 32 → letters_at name bytes ≡ Ok (tt, one) → number_at w32 4294967295 one ≡ Ok (told, two) → BeginsFileOf number bytes → told ≡ number
told_is bytes one two told number few named read b = ap (λ (x : ℕ × List ℕ). x.0) (ok_is (told, two) (number, b.rest) (sym read ∙ begins_numbered bytes one number few named b))

-- A file of tapes begins as one of its number.
pub file_begins : (bytes : List ℕ) (tapes : List (List Entry)) → IsFileOf tapes bytes → BeginsFileOf (length tapes) bytes
file_begins bytes tapes file = record { rest = flat_map tape_written tapes; is = file.is ∙ append_assoc name (four (length tapes)) (flat_map tape_written tapes) }

-- A file of so many tapes begins as one.
pub many_begins : (bytes : List ℕ) (number : ℕ) → IsFileOfSoMany number bytes → BeginsFileOf number bytes
many_begins bytes number many = subst (λ (n : ℕ). BeginsFileOf n bytes) (sym many.number_is) (file_begins bytes many.tapes many.file)

-- Bytes begin with one number.
pub one_number : (bytes : List ℕ) (m n : ℕ) → m < 2 ^ 32 → n < 2 ^ 32 → BeginsFileOf m bytes → BeginsFileOf n bytes → m ≡ n
one_number bytes m n few_m few_n a b = told_is bytes (four m ++ a.rest) a.rest m n few_n (begins_named bytes m a) (begins-told m a.rest few_m) b

-- A file of tapes that begins as that of so many is one of so many.
pub so_many : (bytes : List ℕ) (tapes : List (List Entry)) (number : ℕ) → number < 2 ^ 32 → IsFileOf tapes bytes → BeginsFileOf number bytes → length tapes ≡ number
so_many bytes tapes number few file b = one_number bytes (length tapes) number (omega (arith, file.writable.few)) few (file_begins bytes tapes file) b
