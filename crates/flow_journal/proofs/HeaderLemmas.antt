-- A header, and the files that it begins.
use Rattle.std.proofs.Common.{◌≡◌, ◌⊎◌, inl, inr, ℕ, ◌+◌, ◌*◌, ◌<◌, ◌≤◌, ◌^◌, List, [], ◌∷◌, ◌++◌, length, take, drop, slice_get, suc, zero, refl, ap, sym, ◌∙◌, arith, subst, append-nil, length-append, length-drop}
use Rattle.std.specs.Prelude.{All, Bool, true, false, nat_lt}
use Rattle.std.specs.Int.{w32, to_le_bytes}
use Rattle.std.proofs.lemmas.List.{drop-drop, take-append-drop, take-append-le, length-take}
use Rattle.std.proofs.lemmas.Nat.{from_le_bytes-to_le_bytes_4}
use Rattle.std.proofs.lemmas.Bool.Decides.{nat_tests}
use Rattle.flow_limits.specs.declared.TheConstants.{RUN_LIMIT}
use Rattle.flow_journal.specs.declared.merge.Journal.{Journal}
use Rattle.flow_journal.specs.Files.{name, numbers_written, written, header_written, body_length, number_at, BeginsWithName, IsFileOf, HasHeader, IsFault, IsHeaderFault, strays, many_turns, many_seen, ends, goes_on}
use Rattle.flow_journal.proofs.FileLemmas.{AreBytes, bytes-behind, four-in-front, never-strays, parts-of}

-- A header stands in front of what follows it.
pub header-in-front : (bytes : List ℕ) → AreBytes bytes → HasHeader bytes → header_written (number_at bytes 8) (number_at bytes 12) ++ drop 16 bytes ≡ bytes
header-in-front bytes small header =
    let first : to_le_bytes w32 (number_at bytes 8) ++ drop 12 bytes ≡ drop 8 bytes =
    ap (λ (xs : List ℕ). to_le_bytes w32 (number_at bytes 8) ++ xs) (sym (drop-drop 4 8 bytes)) ∙ four-in-front (drop 8 bytes) (omega (arith, header.whole, length-drop 8 bytes)) (bytes-behind 8 bytes small) in
    let second : to_le_bytes w32 (number_at bytes 12) ++ drop 16 bytes ≡ drop 12 bytes =
    ap (λ (xs : List ℕ). to_le_bytes w32 (number_at bytes 12) ++ xs) (sym (drop-drop 4 12 bytes)) ∙ four-in-front (drop 12 bytes) (omega (arith, header.whole, length-drop 12 bytes)) (bytes-behind 12 bytes small) in
    ap (λ (xs : List ℕ). name ++ (to_le_bytes w32 (number_at bytes 8) ++ xs)) second ∙ (λ i. sym header.turns.begins i ++ first i) ∙ take-append-drop 8 bytes

-- These are the first bytes of a file with this header.
pub header-taken : (bytes : List ℕ) (turns seen : ℕ) → AreBytes bytes → HasHeader bytes → turns ≡ number_at bytes 8 → seen ≡ number_at bytes 12 → take 16 bytes ≡ header_written turns seen
header-taken bytes turns seen small header turns_are seen_are =
    ap (take 16) (sym (header-in-front bytes small header)) ∙ (λ i. header_written (sym turns_are i) (sym seen_are i))

-- What a header tells is read in each file that it begins.
pub tells-turns : (turns seen : ℕ) (body : List ℕ) → turns ≤ RUN_LIMIT → number_at (header_written turns seen ++ body) 8 ≡ turns
tells-turns turns seen body few = from_le_bytes-to_le_bytes_4 turns (omega (arith, few))

pub tells-seen : (turns seen : ℕ) (body : List ℕ) → seen ≤ RUN_LIMIT → number_at (header_written turns seen ++ body) 12 ≡ seen
tells-seen turns seen body few = from_le_bytes-to_le_bytes_4 seen (omega (arith, few))

pub has-header : (turns seen : ℕ) (body : List ℕ) → turns ≤ RUN_LIMIT → seen ≤ turns → HasHeader (header_written turns seen ++ body)
has-header turns seen body few fewer = record {
  turns = record { begins = refl; whole = omega arith; few = omega (arith, tells-turns turns seen body few, few) };
  whole = omega arith;
  few = omega (arith, tells-turns turns seen body few, tells-seen turns seen body (omega (arith, few, fewer)), fewer);
}

-- A file whose body is shorter than its header tells ends too early.
pub ends-fault : (turns seen : ℕ) (body : List ℕ) → turns ≤ RUN_LIMIT → seen ≤ turns → length body < body_length turns seen → IsFault (header_written turns seen ++ body) (16 + length body)
ends-fault turns seen body few fewer short =
    let m = tells-turns turns seen body few in
    let n = tells-seen turns seen body (omega (arith, few, fewer)) in
    ends (inr (inr (has-header turns seen body few fewer, omega (arith, m, n, short)))) (omega arith)

-- In one whose body is longer the first byte behind what the header tells can't stand there.
pub goes-on-fault : (turns seen : ℕ) (body : List ℕ) → turns ≤ RUN_LIMIT → seen ≤ turns → body_length turns seen < length body
    → IsFault (header_written turns seen ++ body) (16 + body_length turns seen)
goes-on-fault turns seen body few fewer long =
    let m = tells-turns turns seen body few in
    let n = tells-seen turns seen body (omega (arith, few, fewer)) in
    goes_on (has-header turns seen body few fewer) (omega (arith, m, n, long)) (omega (arith, m, n))

-- A body as long as its header tells makes it the file of these turns and numbers.
pub file-of-body : (m n : ℕ) (body turns seen : List ℕ) → m ≤ RUN_LIMIT → n ≤ m → length body ≡ body_length m n → turns ≡ take m body → numbers_written seen ≡ drop m body → length seen ≡ n
    → All (λ k. k < 2 ^ 16) seen → IsFileOf (record { turns = turns; seen = seen }) (header_written m n ++ body)
file-of-body m n body turns seen few fewer whole turns_are seen_are count numbers =
    let turns_count : length turns ≡ m = ap length turns_are ∙ omega (arith, whole, length-take m body) in
    let journal : Journal = record { turns = turns; seen = seen } in
    let parts : turns ++ numbers_written seen ≡ body = (λ i. turns_are i ++ seen_are i) ∙ take-append-drop m body in
    let same : header_written m n ++ body ≡ written journal =
    (λ i. header_written (sym turns_count i) (sym count i) ++ body) ∙ ap (λ (xs : List ℕ). header_written (length turns) (length seen) ++ xs) (sym parts) in
    record { writable = record { turns = omega (arith, turns_count, few); seen = omega (arith, turns_count, count, fewer) }; numbers = numbers; is = same }

-- what stands before more bytes
get-before : (bytes rest : List ℕ) (place : ℕ) → place < length bytes → slice_get (bytes ++ rest) place ≡ slice_get bytes place
get-before [] rest place within = absurd (omega (arith, within))
get-before (b ∷ bytes) rest zero within = refl
get-before (b ∷ bytes) rest (suc place) within = get-before bytes rest place (omega (arith, within))

number-before : (place : ℕ) (bytes rest : List ℕ) → place + 4 ≤ length bytes → number_at (bytes ++ rest) place ≡ number_at bytes place
number-before zero [] rest few = absurd (omega (arith, few))
number-before zero (a ∷ []) rest few = absurd (omega (arith, few))
number-before zero (a ∷ b ∷ []) rest few = absurd (omega (arith, few))
number-before zero (a ∷ b ∷ c ∷ []) rest few = absurd (omega (arith, few))
number-before zero (a ∷ b ∷ c ∷ d ∷ bytes) rest few = refl
number-before (suc place) [] rest few = absurd (omega (arith, few))
number-before (suc place) (b ∷ bytes) rest few = number-before place bytes rest (omega (arith, few))

-- A fault within a whole header stays where other bytes follow.
fault-before : (bytes rest : List ℕ) (place : ℕ) → 16 ≤ length bytes → place < 16 → IsFault bytes place → IsFault (bytes ++ rest) place
fault-before bytes rest place long within fault =
    let more = length-append bytes rest in
    let m : number_at (bytes ++ rest) 8 ≡ number_at bytes 8 = number-before 8 bytes rest (omega (arith, long)) in
    let n : number_at (bytes ++ rest) 12 ≡ number_at bytes 12 = number-before 12 bytes rest (omega (arith, long)) in
    let front : take 8 (bytes ++ rest) ≡ take 8 bytes = take-append-le 8 bytes rest (omega (arith, long)) in
    elim fault [
      | strays away ↦ strays (record {
        within = away.within;
        before = take-append-le place bytes rest (omega (arith, long, within)) ∙ away.before;
        other = λ same. away.other (sym (get-before bytes rest place (omega (arith, long, within))) ∙ same);
      })
      | many_turns tells at ↦ many_turns (record { begins = front ∙ tells.begins; whole = omega (arith, long, more); many = omega (arith, tells.many, m) }) at
      | many_seen tells at ↦ many_seen (record {
        turns = record { begins = front ∙ tells.turns.begins; whole = omega (arith, long, more); few = omega (arith, tells.turns.few, m) };
        whole = omega (arith, long, more);
        many = omega (arith, tells.many, m, n);
      }) at
      | ends early at ↦ absurd (omega (arith, at, long, within))
      | goes_on header longer at ↦ absurd (omega (arith, at, within))
    ]

whole-or-short : (long : ℕ) → (long < 16) ⊎ (16 ≤ long)
whole-or-short long = by (nat_lt long 16) refl where
  by : (t : Bool) → nat_lt long 16 ≡ t → (long < 16) ⊎ (16 ≤ long)
  by true is = inl (grind (arith, nat_tests))
  by false is = inr (grind (arith, nat_tests))

-- A fault within the first 16 bytes is one of each file that begins so.
pub header-fault : (bytes : List ℕ) (place : ℕ) → place < 16 → IsFault bytes place → IsHeaderFault bytes place
header-fault bytes place within fault = λ rest follows. elim (whole-or-short (length bytes)) [
  | inl short ↦ subst (λ (r : List ℕ). IsFault (bytes ++ r) place) (sym (follows short)) (subst (λ (b : List ℕ). IsFault b place) (sym (append-nil bytes)) fault)
  | inr long ↦ fault-before bytes rest place long within fault
]

-- A header that tells more turns than a run may have.
pub many-turns-fault : (bytes : List ℕ) (turns place : ℕ) → BeginsWithName bytes → turns ≡ number_at bytes 8 → 12 ≤ length bytes → RUN_LIMIT < turns → place ≡ 8 → IsHeaderFault bytes place
many-turns-fault bytes turns place begins turns_are whole many at =
    header-fault bytes place (omega (arith, at)) (many_turns (record { begins = begins; whole = whole; many = omega (arith, many, turns_are) }) at)

-- One that tells more seen numbers than turns.
pub many-seen-fault : (bytes : List ℕ) (turns seen place : ℕ) → BeginsWithName bytes → turns ≡ number_at bytes 8 → turns ≤ RUN_LIMIT → seen ≡ number_at bytes 12 → 16 ≤ length bytes → turns < seen → place ≡ 12
    → IsHeaderFault bytes place
many-seen-fault bytes turns seen place begins turns_are few seen_are whole many at =
    header-fault bytes place (omega (arith, at))
    (many_seen (record { turns = record { begins = begins; whole = omega (arith, whole); few = omega (arith, few, turns_are) }; whole = whole; many = omega (arith, many, turns_are, seen_are) }) at)

-- A fault of a file's first bytes is one of the file.
pub fault-alone : (bytes : List ℕ) (place : ℕ) → IsHeaderFault bytes place → IsFault bytes place
fault-alone bytes place fault = subst (λ (b : List ℕ). IsFault b place) (append-nil bytes) (fault [] (λ short. refl))

-- The one fault of a file whose body isn't longer than its header tells is that it ends.
pub ends-at : (turns seen : ℕ) (body : List ℕ) (place : ℕ) → turns ≤ RUN_LIMIT → seen ≤ turns → length body ≤ body_length turns seen → IsFault (header_written turns seen ++ body) place
    → place ≡ 16 + length body
ends-at turns seen body place few fewer short fault =
    let m = tells-turns turns seen body few in
    let n = tells-seen turns seen body (omega (arith, few, fewer)) in
    elim fault [
      | strays away ↦ absurd (never-strays (header_written turns seen ++ body) place refl away)
      | many_turns tells at ↦ absurd (omega (arith, tells.many, m, few))
      | many_seen tells at ↦ absurd (omega (arith, tells.many, m, n, fewer))
      | ends early at ↦ at ∙ omega arith
      | goes_on header longer at ↦ absurd (omega (arith, longer, m, n, short))
    ]

-- The file of a journal has at most three bytes for each turn of a run behind its header.
pub file-bound : (journal : Journal) (bytes : List ℕ) → IsFileOf journal bytes → length bytes ≤ 16 + 3 * RUN_LIMIT
file-bound journal bytes file =
    let whole = (parts-of journal bytes file).whole in
    let turns = file.writable.turns in
    let seen = file.writable.seen in
    omega (arith, whole, turns, seen)
