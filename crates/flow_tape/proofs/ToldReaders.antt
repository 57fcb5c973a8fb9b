-- The readers of an answer, of what was made and of what was dropped.
use Rattle.flow_limits.specs.declared.TheConstants.{HANDS_LIMIT, TEXT_LIMIT}
use Rattle.std.proofs.Common.{◌≡◌, ◌==◌, if◌then◌else◌, ℕ, ◌<◌, ◌^◌, List, [], ◌∷◌, length, Option, Some, None, Ok, suc, zero, refl, ap, sym, arith}
use Rattle.std.specs.Prelude.{replicate}
use Rattle.std.specs.Int.{w8, w16, w32, w64}
use Rattle.std.specs.List.{flat_map, AllByRecursion}
use Rattle.std.proofs.lemmas.List.{length-replicate}
use Rattle.std.proofs.lemmas.List.Concat.{flat_map_single}
use Rattle.flow_packet.specs.declared.packet.Kind.{Kind}
use Rattle.flow_packet.specs.declared.packet.Kind.TheVariants as kinds
use Rattle.flow_component.specs.declared.Answer.{Answer}
use Rattle.flow_component.specs.declared.Answer.TheVariants as answers
use Rattle.flow_own.specs.Acts.{Made}
use Rattle.flow_tape.specs.Files.{kind_byte}
use Rattle.flow_tape.specs.Fields.{Field, Number, Text, any_four, any_eight, answer_fields, made_fields, dropped_fields}
use Rattle.flow_own.specs.Reading.{Read, ◌>>=◌, number_at, text_at, many_at, any_at, id_at, answer_by, answer_at, kind_by, packet_at, made_at, dropped_at}
use Rattle.flow_tape.proofs.Readers.{Fits, Reads, matched-reads, joined_fields, AlsoAt, joined-reads, agreed-reads, given-reads}
use Rattle.flow_tape.proofs.FieldReaders.{wide8, wide16, wide32, wide64, number_fields, Any, number-reads, text_fields, HasSize, text-reads, zeros-bytes}
use Rattle.flow_tape.proofs.ManyReaders.{AreMany, some-many, many-reads}

pub any-reads : Reads any_at (number_fields w32 4294967295) Any
any-reads = number-reads w32 4294967295 (2 ^ 32) wide32 (omega arith)

pub id-reads : Reads id_at (number_fields w64 18446744073709551615) Any
id-reads = number-reads w64 18446744073709551615 (2 ^ 64) wide64 (omega arith)

-- The reader of a byte that tells a case.
pub case-reads : (most : ℕ) → most < 256 → Reads (number_at w8 most) (number_fields w8 most) Any
case-reads most few = number-reads w8 most 256 wide8 few

pub all-any : {A : Type 0} (xs : List A) → AllByRecursion Any xs
all-any [] = tt
all-any (x ∷ xs) = (tt, all-any xs)

-- ---- answers

abbrev answer_case : Answer → ℕ
answer_case answers.Start = 0
answer_case (answers.Got id) = 1
answer_case answers.End = 2
answer_case answers.Sent = 3
answer_case (answers.Level level) = 4

abbrev answer_rest : Answer → List Field
answer_rest answers.Start = []
answer_rest (answers.Got id) = any_eight id ∷ []
answer_rest answers.End = []
answer_rest answers.Sent = []
answer_rest (answers.Level level) = any_four level ∷ []

same-answer : (a : Answer) → Any a → joined_fields (number_fields w8 4) answer_rest answer_case a ≡ answer_fields a
same-answer answers.Start u = refl
same-answer (answers.Got id) u = refl
same-answer answers.End u = refl
same-answer answers.Sent u = refl
same-answer (answers.Level level) u = refl

only-start : (a : Answer) → AlsoAt Any answer_case 0 a → a ≡ answers.Start
only-start answers.Start also = refl
only-start a also = absurd (let no = also.1 in cc)

only-end : (a : Answer) → AlsoAt Any answer_case 2 a → a ≡ answers.End
only-end answers.End also = refl
only-end a also = absurd (let no = also.1 in cc)

only-sent : (a : Answer) → AlsoAt Any answer_case 3 a → a ≡ answers.Sent
only-sent answers.Sent also = refl
only-sent a also = absurd (let no = also.1 in cc)

of-got : (a : Answer) → AlsoAt Any answer_case 1 a → (id : ℕ) × Any id × (a ≡ answers.Got id)
of-got (answers.Got id) also = (id, tt, refl)
of-got a also = absurd (let no = also.1 in cc)

of-level : (a : Answer) → AlsoAt Any answer_case 4 a → (level : ℕ) × Any level × (a ≡ answers.Level level)
of-level (answers.Level level) also = (level, tt, refl)
of-level a also = absurd (let no = also.1 in cc)

by-case : (k : ℕ) → Fits (number_fields w8 4) Any k → Reads (answer_by k) answer_rest (AlsoAt Any answer_case k)
by-case zero fit = given-reads answers.Start answer_rest (AlsoAt Any answer_case 0) refl (tt, refl) only-start
by-case (suc zero) fit = matched-reads id_at (number_fields w64 18446744073709551615) Any answers.Got answer_rest (AlsoAt Any answer_case 1) (record { same = λ id. refl; there = λ id u. (tt, refl); back = of-got }) id-reads
by-case (suc (suc zero)) fit = given-reads answers.End answer_rest (AlsoAt Any answer_case 2) refl (tt, refl) only-end
by-case (suc (suc (suc zero))) fit = given-reads answers.Sent answer_rest (AlsoAt Any answer_case 3) refl (tt, refl) only-sent
by-case (suc (suc (suc (suc zero)))) fit = matched-reads any_at (number_fields w32 4294967295) Any answers.Level answer_rest (AlsoAt Any answer_case 4) (record { same = λ n. refl; there = λ n u. (tt, refl); back = of-level }) any-reads
by-case (suc (suc (suc (suc (suc k))))) fit = absurd (omega (arith, fit.0.0))

some-answer : (k : ℕ) → Fits (number_fields w8 4) Any k → (a : Answer) × Fits answer_rest (AlsoAt Any answer_case k) a
some-answer zero fit = (answers.Start, (tt, (tt, refl)))
some-answer (suc zero) fit = (answers.Got 0, ((omega arith, tt), (tt, refl)))
some-answer (suc (suc zero)) fit = (answers.End, (tt, (tt, refl)))
some-answer (suc (suc (suc zero))) fit = (answers.Sent, (tt, (tt, refl)))
some-answer (suc (suc (suc (suc zero)))) fit = (answers.Level 0, ((omega arith, tt), (tt, refl)))
some-answer (suc (suc (suc (suc (suc k))))) fit = absurd (omega (arith, fit.0.0))

pub answer-reads : Reads answer_at answer_fields Any
unfolding answer_at
answer-reads =
    agreed-reads answer_at (joined_fields (number_fields w8 4) answer_rest answer_case) Any answer_fields Any (record { there = λ a u. u; back = λ a u. u; same = same-answer })
    (joined-reads (number_at w8 4) (number_fields w8 4) Any answer_by answer_rest Any answer_case (record { first = case-reads 4 (omega arith); second = by-case; of_key = λ a u. tt; some = some-answer }))

-- ---- what was made

-- A packet of this kind was made.
abbrev HasKind : Kind → Option Made → Type 0
HasKind kind None = ⊥
HasKind kind (Some made) = made.0 ≡ kind

abbrev made_size : Option Made → ℕ
made_size None = 0
made_size (Some made) = length made.1

abbrev made_text : Option Made → List Field
made_text None = []
made_text (Some made) = Text made.1 ∷ []

abbrev made_rest : Option Made → List Field
made_rest None = []
made_rest (Some made) = Number w32 TEXT_LIMIT (length made.1) ∷ Text made.1 ∷ []

abbrev then_text : Kind → ℕ → List ℕ → Read (Option Made)
then_text kind size bytes = text_at size bytes >>= λ t. Ok (Some (kind, t.0), t.1)

of-packet : (kind : Kind) (n : ℕ) (made : Option Made) → AlsoAt (HasKind kind) made_size n made → (text : List ℕ) × HasSize n text × (made ≡ Some (kind, text))
of-packet kind n None also = absurd also.0
of-packet kind n (Some made) also = (made.1, also.1, (λ i. Some (also.0 i, made.1)))

same-packet : (kind : Kind) (made : Option Made) → HasKind kind made → joined_fields (number_fields w32 TEXT_LIMIT) made_text made_size made ≡ made_rest made
same-packet kind None also = absurd also
same-packet kind (Some made) also = refl

pub packet-reads : (kind : Kind) → Reads (packet_at kind) made_rest (HasKind kind)
unfolding packet_at
packet-reads kind =
    agreed-reads (packet_at kind) (joined_fields (number_fields w32 TEXT_LIMIT) made_text made_size) (HasKind kind) made_rest (HasKind kind) (record { there = λ m also. also; back = λ m also. also; same = same-packet kind })
    (joined-reads (number_at w32 TEXT_LIMIT) (number_fields w32 TEXT_LIMIT) Any (then_text kind) made_text (HasKind kind) made_size
    (record {
      first = number-reads w32 TEXT_LIMIT (2 ^ 32) wide32 (omega arith);
      second = λ n fit. matched-reads (text_at n) text_fields (HasSize n) (λ text. Some (kind, text)) made_text (AlsoAt (HasKind kind) made_size n) (record { same = λ text. refl; there = λ text sized. (refl, sized); back = of-packet kind n }) (text-reads n);
      of_key = λ m also. tt;
      some = λ n fit. (Some (kind, replicate n 0), ((zeros-bytes n, tt), (refl, length-replicate n 0)));
    }))

abbrev made_case : Option Made → ℕ
made_case None = 0
made_case (Some made) = kind_byte made.0

one-kind : (a b : Kind) → kind_byte a ≡ kind_byte b → a ≡ b
one-kind kinds.Normal kinds.Normal e = refl
one-kind kinds.Open kinds.Open e = refl
one-kind kinds.Close kinds.Close e = refl
one-kind a b e = absurd cc

no-kind : (a : Kind) → kind_byte a ≡ 0 → ⊥
no-kind kinds.Normal e = cc
no-kind kinds.Open e = cc
no-kind kinds.Close e = cc

only-none : (made : Option Made) → AlsoAt Any made_case 0 made → made ≡ None
only-none None also = refl
only-none (Some made) also = absurd (no-kind made.0 also.1)

kind-there : (kind : Kind) (made : Option Made) → HasKind kind made → AlsoAt Any made_case (kind_byte kind) made
kind-there kind None also = absurd also
kind-there kind (Some made) also = (tt, ap kind_byte also)

kind-back : (kind : Kind) (made : Option Made) → AlsoAt Any made_case (kind_byte kind) made → HasKind kind made
kind-back kind None also = absurd (no-kind kind (sym also.1))
kind-back kind (Some made) also = one-kind made.0 kind also.1

of-kind : (kind : Kind) → Reads (packet_at kind) made_rest (AlsoAt Any made_case (kind_byte kind))
of-kind kind =
    agreed-reads (packet_at kind) made_rest (HasKind kind) made_rest (AlsoAt Any made_case (kind_byte kind)) (record { there = kind-there kind; back = kind-back kind; same = λ m also. refl }) (packet-reads kind)

abbrev made_by : ℕ → List ℕ → Read (Option Made)
made_by k bytes = if k == 0 then Ok (None, bytes) else packet_at (kind_by k) bytes

made-by-case : (k : ℕ) → Fits (number_fields w8 3) Any k → Reads (made_by k) made_rest (AlsoAt Any made_case k)
made-by-case zero fit = given-reads None made_rest (AlsoAt Any made_case 0) refl (tt, refl) only-none
made-by-case (suc zero) fit = of-kind kinds.Normal
made-by-case (suc (suc zero)) fit = of-kind kinds.Open
made-by-case (suc (suc (suc zero))) fit = of-kind kinds.Close
made-by-case (suc (suc (suc (suc k)))) fit = absurd (omega (arith, fit.0.0))

some-made : (k : ℕ) → Fits (number_fields w8 3) Any k → (m : Option Made) × Fits made_rest (AlsoAt Any made_case k) m
some-made zero fit = (None, (tt, (tt, refl)))
some-made (suc zero) fit = (Some (kinds.Normal, []), ((omega arith, (tt, tt)), (tt, refl)))
some-made (suc (suc zero)) fit = (Some (kinds.Open, []), ((omega arith, (tt, tt)), (tt, refl)))
some-made (suc (suc (suc zero))) fit = (Some (kinds.Close, []), ((omega arith, (tt, tt)), (tt, refl)))
some-made (suc (suc (suc (suc k)))) fit = absurd (omega (arith, fit.0.0))

same-made : (m : Option Made) → Any m → joined_fields (number_fields w8 3) made_rest made_case m ≡ made_fields m
same-made None u = refl
same-made (Some made) u = refl

pub made-reads : Reads made_at made_fields Any
unfolding made_at
made-reads =
    agreed-reads made_at (joined_fields (number_fields w8 3) made_rest made_case) Any made_fields Any (record { there = λ m u. u; back = λ m u. u; same = same-made })
    (joined-reads (number_at w8 3) (number_fields w8 3) Any made_by made_rest Any made_case (record { first = case-reads 3 (omega arith); second = made-by-case; of_key = λ m u. tt; some = some-made }))

-- ---- what was dropped

abbrev id_fields : ℕ → List Field
id_fields = number_fields w64 18446744073709551615

same-dropped : (ids : List ℕ) → Any ids → joined_fields (number_fields w16 HANDS_LIMIT) (flat_map id_fields) length ids ≡ dropped_fields ids
same-dropped ids u = ap (λ (fs : List Field). Number w16 HANDS_LIMIT (length ids) ∷ fs) (flat_map_single any_eight ids)

zero_fits : Fits id_fields Any 0
zero_fits = ((omega arith, tt), tt)

many-ids : (n : ℕ) → Reads (many_at id_at n) (flat_map id_fields) (AlsoAt Any length n)
many-ids n =
    agreed-reads (many_at id_at n) (flat_map id_fields) (AreMany Any n) (flat_map id_fields) (AlsoAt Any length n) (record { there = λ ids also. (tt, also.1); back = λ ids also. (all-any ids, also.1); same = λ ids also. refl })
    (many-reads id_at id_fields Any 0 zero_fits id-reads n)

some-ids : (n : ℕ) → (ids : List ℕ) × Fits (flat_map id_fields) (AlsoAt Any length n) ids
some-ids n = let many = some-many id_at id_fields Any 0 zero_fits id-reads n in (replicate n 0, (many.0, (tt, many.1.1)))

pub dropped-reads : Reads dropped_at dropped_fields Any
unfolding dropped_at
dropped-reads =
    agreed-reads dropped_at (joined_fields (number_fields w16 HANDS_LIMIT) (flat_map id_fields) length) Any dropped_fields Any (record { there = λ ids u. u; back = λ ids u. u; same = same-dropped })
    (joined-reads (number_at w16 HANDS_LIMIT) (number_fields w16 HANDS_LIMIT) Any (many_at id_at) (flat_map id_fields) Any length
    (record { first = number-reads w16 HANDS_LIMIT (2 ^ 16) wide16 (omega arith); second = λ n fit. many-ids n; of_key = λ ids u. tt; some = λ n fit. some-ids n }))
