-- A file is that of one journal, or has one fault.
use Rattle.std.proofs.Common.{◌≡◌, ◌⊎◌, inl, inr, ℕ, ◌+◌, ◌*◌, ◌<◌, ◌≤◌, ◌^◌, List, [], ◌∷◌, ◌++◌, length, slice_get, suc, zero, refl, ap, sym, ◌∙◌, arith}
use Rattle.std.specs.Prelude.{All, Bool, true, false, cond, nat_lt}
use Rattle.std.specs.Int.{w16, to_le_bytes, from_le_bytes}
use Rattle.std.proofs.lemmas.Nat.{from_le_bytes-to_le_bytes_2}
use Rattle.std.proofs.lemmas.List.Elements.{All-head, All-tail}
use Rattle.std.proofs.lemmas.Bool.Decides.{nat_tests}
use Rattle.flow_limits.specs.declared.TheConstants.{RUN_LIMIT}
use Rattle.flow_journal.specs.Files.{name, numbers_written, number_at, IsFault, strays, many_turns, many_seen, ends, goes_on, BeginsWithName, StraysFromName, HasOneJournal, HasJournalOrFault, HasOneFault}
use Rattle.flow_journal.proofs.FileLemmas.{parts-of, never-strays, within-front}

-- two lists of the same bytes, cut at the same place
pub same-front : (xs ys us vs : List ℕ) → length xs ≡ length ys → xs ++ us ≡ ys ++ vs → (xs ≡ ys) × (us ≡ vs)
same-front [] [] us vs long same = (refl, same)
same-front [] (y ∷ ys) us vs long same = absurd (omega (arith, long))
same-front (x ∷ xs) [] us vs long same = absurd (omega (arith, long))
same-front (x ∷ xs) (y ∷ ys) us vs long same =
    let head : x ≡ y = cc in
    let tail : xs ++ us ≡ ys ++ vs = cc in
    let rest = same-front xs ys us vs (omega (arith, long)) tail in
    (λ i. head i ∷ rest.0 i, rest.1)

-- two bytes tell a number
same-number : (m n : ℕ) → m < 2 ^ 16 → n < 2 ^ 16 → to_le_bytes w16 m ≡ to_le_bytes w16 n → m ≡ n
same-number m n few less same = sym (from_le_bytes-to_le_bytes_2 m few) ∙ ap (from_le_bytes w16) same ∙ from_le_bytes-to_le_bytes_2 n less

same-numbers : (xs ys : List ℕ) → All (λ n. n < 2 ^ 16) xs → All (λ n. n < 2 ^ 16) ys → numbers_written xs ≡ numbers_written ys → xs ≡ ys
same-numbers [] [] few less same = refl
same-numbers [] (y ∷ ys) few less same = absurd (cc)
same-numbers (x ∷ xs) [] few less same = absurd (cc)
same-numbers (x ∷ xs) (y ∷ ys) few less same =
    let cut = same-front (to_le_bytes w16 x) (to_le_bytes w16 y) (numbers_written xs) (numbers_written ys) refl same in
    let head = same-number x y (All-head (λ n. n < 2 ^ 16) x xs few) (All-head (λ n. n < 2 ^ 16) y ys less) cut.0 in
    let tail = same-numbers xs ys (All-tail (λ n. n < 2 ^ 16) x xs few) (All-tail (λ n. n < 2 ^ 16) y ys less) cut.1 in
    λ i. head i ∷ tail i

-- Bytes are the file of one journal at most.
pub one-journal : HasOneJournal
one-journal bytes j k first second =
    let a = parts-of j bytes first in
    let b = parts-of k bytes second in
    let cut = same-front j.turns k.turns (numbers_written j.seen) (numbers_written k.seen) (sym a.turns ∙ b.turns) (sym a.rest ∙ b.rest) in
    (cut.0, same-numbers j.seen k.seen first.numbers second.numbers cut.1)

-- Bytes that are the file of a journal have no fault.
pub journal-or-fault : HasJournalOrFault
journal-or-fault bytes journal place file fault =
    let p = parts-of journal bytes file in
    let turns = file.writable.turns in
    let seen = file.writable.seen in
    elim fault [
      | strays away ↦ never-strays bytes place p.begins away
      | many_turns tells at ↦ omega (arith, tells.many, p.turns, turns)
      | many_seen tells at ↦ omega (arith, tells.many, p.turns, p.seen, seen)
      | ends early at ↦ elim early [
        | inl begins ↦ omega (arith, begins.1, p.whole)
        | inr more ↦ elim more [
          | inl tells ↦ omega (arith, tells.1, p.whole)
          | inr header ↦ omega (arith, header.1, p.whole, p.turns, p.seen)
        ]
      ]
      | goes_on header longer at ↦ omega (arith, longer, p.whole, p.turns, p.seen)
    ]

-- a file strays from the name at one place
order : (p q : ℕ) → (p < q) ⊎ ((p ≡ q) ⊎ (q < p))
order zero zero = inr (inl refl)
order zero (suc q) = inl (omega arith)
order (suc p) zero = inr (inr (omega arith))
order (suc p) (suc q) = elim (order p q) [
  | inl less ↦ inl (omega (arith, less))
  | inr more ↦ elim more [ inl same ↦ inr (inl (ap suc same)) | inr greater ↦ inr (inr (omega (arith, greater))) ]
]

strays-before : (bytes : List ℕ) (p q : ℕ) → StraysFromName bytes p → StraysFromName bytes q → p < q → ⊥
strays-before bytes p q first second less = first.other (sym (within-front q p bytes less) ∙ ap (λ (bs : List ℕ). slice_get bs p) second.before ∙ within-front q p name less)

strays-once : (bytes : List ℕ) (p q : ℕ) → StraysFromName bytes p → StraysFromName bytes q → p ≡ q
strays-once bytes p q first second = elim (order p q) [
  | inl less ↦ absurd (strays-before bytes p q first second less)
  | inr more ↦ elim more [ inl same ↦ same | inr greater ↦ absurd (strays-before bytes q p second first greater) ]
]

-- where a file that begins with the name has its fault, by its length and the numbers that it tells
abbrev place_from : ℕ → ℕ → ℕ → ℕ
place_from long turns seen = cond (nat_lt long 12) long (cond (nat_lt RUN_LIMIT turns) 8 (cond (nat_lt long 16) long (cond (nat_lt turns seen) 12 (cond (nat_lt long (16 + turns + 2 * seen)) long (16 + turns + 2 * seen)))))

by-tests : (long turns seen : ℕ) (a b c d e : Bool) → nat_lt long 12 ≡ a → nat_lt RUN_LIMIT turns ≡ b → nat_lt long 16 ≡ c → nat_lt turns seen ≡ d → nat_lt long (16 + turns + 2 * seen) ≡ e
    → place_from long turns seen ≡ cond a long (cond b 8 (cond c long (cond d 12 (cond e long (16 + turns + 2 * seen)))))
by-tests long turns seen a b c d e ta tb tc td te = λ i. cond (ta i) long (cond (tb i) 8 (cond (tc i) long (cond (td i) 12 (cond (te i) long (16 + turns + 2 * seen)))))

is-less : (m n : ℕ) → m < n → nat_lt m n ≡ true
is-less m n less = grind (arith, nat_tests, less)

is-most : (m n : ℕ) → n ≤ m → nat_lt m n ≡ false
is-most m n most = grind (arith, nat_tests, most)

place-is : (bytes : List ℕ) (place : ℕ) → BeginsWithName bytes → IsFault bytes place → place ≡ place_from (length bytes) (number_at bytes 8) (number_at bytes 12)
place-is bytes place begins fault =
    let l : ℕ = length bytes in
    let m : ℕ = number_at bytes 8 in
    let n : ℕ = number_at bytes 12 in
    elim fault [
      | strays away ↦ absurd (never-strays bytes place begins away)
      | many_turns tells at ↦ at ∙ sym (by-tests l m n false true (nat_lt l 16) (nat_lt m n) (nat_lt l (16 + m + 2 * n)) (is-most l 12 tells.whole) (is-less RUN_LIMIT m tells.many) refl refl refl)
      | many_seen tells at ↦ at ∙ sym (by-tests l m n false false false true (nat_lt l (16 + m + 2 * n)) (is-most l 12 tells.turns.whole) (is-most RUN_LIMIT m tells.turns.few) (is-most l 16 tells.whole) (is-less m n tells.many) refl)
      | ends early at ↦ at ∙ elim early [
        | inl ends_first ↦ sym (by-tests l m n true (nat_lt RUN_LIMIT m) (nat_lt l 16) (nat_lt m n) (nat_lt l (16 + m + 2 * n)) (is-less l 12 ends_first.1) refl refl refl refl)
        | inr more ↦ elim more [
          | inl tells ↦ sym (by-tests l m n false false true (nat_lt m n) (nat_lt l (16 + m + 2 * n)) (is-most l 12 tells.0.whole) (is-most RUN_LIMIT m tells.0.few) (is-less l 16 tells.1) refl refl)
          | inr header ↦ sym (by-tests l m n false false false false true (is-most l 12 header.0.turns.whole) (is-most RUN_LIMIT m header.0.turns.few) (is-most l 16 header.0.whole) (is-most m n header.0.few) (is-less l (16 + m + 2 * n) header.1))
        ]
      ]
      | goes_on header longer at ↦ at ∙ sym (by-tests l m n false false false false false (is-most l 12 header.turns.whole) (is-most RUN_LIMIT m header.turns.few) (is-most l 16 header.whole) (is-most m n header.few) (is-most l (16 + m + 2 * n) (omega (arith, longer))))
    ]

-- a fault is where the file strays from the name, or the file begins with it
strays-or-begins : (bytes : List ℕ) (place : ℕ) → IsFault bytes place → StraysFromName bytes place ⊎ BeginsWithName bytes
strays-or-begins bytes place fault = elim fault [
  | strays away ↦ inl away
  | many_turns tells at ↦ inr tells.begins
  | many_seen tells at ↦ inr tells.turns.begins
  | ends early at ↦ elim early [
    | inl begins ↦ inr begins.0
    | inr more ↦ elim more [ inl tells ↦ inr tells.0.begins | inr header ↦ inr header.0.turns.begins ]
  ]
  | goes_on header longer at ↦ inr header.turns.begins
]

-- Bytes have one fault at most.
pub one-fault : HasOneFault
one-fault bytes p q first second = elim (strays-or-begins bytes p first) [
  | inl away ↦ elim (strays-or-begins bytes q second) [ inl too ↦ strays-once bytes p q away too | inr begins ↦ absurd (never-strays bytes p begins away) ]
  | inr begins ↦ place-is bytes p begins first ∙ sym (place-is bytes q begins second)
]
