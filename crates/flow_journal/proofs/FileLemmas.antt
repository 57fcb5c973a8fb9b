-- Numbers in bytes, and the parts of a journal file.
use Rattle.std.proofs.Common.{◌≡◌, ℕ, ◌+◌, ◌*◌, ◌<◌, ◌≤◌, List, [], ◌∷◌, ◌++◌, length, take, drop, get_or, slice_get, Some, suc, zero, refl, ap, sym, ◌∙◌, arith, subst, append_assoc, append-nil, length-append}
use Rattle.std.specs.Int.{w16, w32, to_le_bytes, from_le_bytes}
use Rattle.std.proofs.lemmas.Nat.{le_bytes_2, le_bytes_4, from_le_bytes-to_le_bytes_4}
use Rattle.flow_journal.specs.declared.merge.Journal.{Journal}
use Rattle.flow_journal.specs.Files.{numbers_written, number_at, IsFileOf, BeginsWithName, StraysFromName}

-- two bytes for each number
pub numbers-length : (numbers : List ℕ) → length (numbers_written numbers) ≡ 2 * length numbers
numbers-length [] = refl
numbers-length (n ∷ numbers) = omega (arith, numbers-length numbers)

-- a number more
pub numbers-more : (numbers : List ℕ) (n : ℕ) → numbers_written (numbers ++ n ∷ []) ≡ numbers_written numbers ++ to_le_bytes w16 n
numbers-more [] n = append-nil (to_le_bytes w16 n)
numbers-more (m ∷ numbers) n = ap (λ (bytes : List ℕ). to_le_bytes w16 m ++ bytes) (numbers-more numbers n) ∙ sym (append_assoc (to_le_bytes w16 m) (numbers_written numbers) (to_le_bytes w16 n))

-- the four bytes in front of a list of bytes are those of their number
pub four-in-front : (bytes : List ℕ) → 4 ≤ length bytes → ((i : ℕ) → get_or bytes i 0 < 256) → to_le_bytes w32 (from_le_bytes w32 bytes) ++ drop 4 bytes ≡ bytes
four-in-front [] few small = absurd (omega (arith, few))
four-in-front (a ∷ []) few small = absurd (omega (arith, few))
four-in-front (a ∷ b ∷ []) few small = absurd (omega (arith, few))
four-in-front (a ∷ b ∷ c ∷ []) few small = absurd (omega (arith, few))
four-in-front (a ∷ b ∷ c ∷ d ∷ bytes) few small =
    ap (λ (front : List ℕ). front ++ bytes) (le_bytes_4 (a ∷ b ∷ c ∷ d ∷ []) (from_le_bytes w32 (a ∷ b ∷ c ∷ d ∷ [])) refl each refl)
  where
    each : (i : ℕ) → get_or (a ∷ b ∷ c ∷ d ∷ []) i 0 < 256
    each zero = small 0
    each (suc zero) = small 1
    each (suc (suc zero)) = small 2
    each (suc (suc (suc zero))) = small 3
    each (suc (suc (suc (suc i)))) = omega arith

-- What a file of a journal holds at its places.
pub record Parts (journal : Journal) (bytes : List ℕ) : Type 0 where
  pub begins : BeginsWithName bytes
  pub turns : number_at bytes 8 ≡ length journal.turns
  pub seen : number_at bytes 12 ≡ length journal.seen
  pub rest : drop 16 bytes ≡ journal.turns ++ numbers_written journal.seen
  pub whole : length bytes ≡ 16 + length journal.turns + 2 * length journal.seen

-- The file of a journal, cut into its parts.
pub parts-of : (journal : Journal) (bytes : List ℕ) → IsFileOf journal bytes → Parts journal bytes
parts-of journal bytes file = subst (Parts journal) (sym file.is) (record {
  begins = refl;
  turns = from_le_bytes-to_le_bytes_4 (length journal.turns) (omega (arith, file.writable.turns));
  seen = from_le_bytes-to_le_bytes_4 (length journal.seen) (omega (arith, file.writable.turns, file.writable.seen));
  rest = refl;
  whole = omega (arith, numbers-length journal.seen, length-append journal.turns (numbers_written journal.seen));
})

-- a byte within the first n is one of all
pub within-front : (n i : ℕ) (bytes : List ℕ) → i < n → slice_get (take n bytes) i ≡ slice_get bytes i
within-front zero i bytes within = absurd (omega (arith, within))
within-front (suc n) i [] within = refl
within-front (suc n) zero (b ∷ bytes) within = refl
within-front (suc n) (suc i) (b ∷ bytes) within = within-front n i bytes (omega (arith, within))

-- one byte more that is the same
pub front-more : (k : ℕ) (xs ys : List ℕ) (x : ℕ) → take k xs ≡ take k ys → slice_get xs k ≡ Some x → slice_get ys k ≡ Some x → take (k + 1) xs ≡ take (k + 1) ys
front-more k [] ys x same here there = absurd (cc)
front-more k (a ∷ xs) [] x same here there = absurd (cc)
front-more zero (a ∷ xs) (b ∷ ys) x same here there = (let p : a ≡ x = cc in let q : b ≡ x = cc in ap (λ (n : ℕ). n ∷ []) (p ∙ sym q))
front-more (suc k) (a ∷ xs) (b ∷ ys) x same here there =
    let head : a ≡ b = cc in
    let tail : take k xs ≡ take k ys = cc in
    let at : suc k + 1 ≡ suc (k + 1) = omega arith in
    ap (λ (n : ℕ). take n (a ∷ xs)) at ∙ (λ i. head i ∷ front-more k xs ys x tail here there i) ∙ sym (ap (λ (n : ℕ). take n (b ∷ ys)) at)

-- a file that begins with the name strays nowhere from it
pub never-strays : (bytes : List ℕ) (place : ℕ) → BeginsWithName bytes → StraysFromName bytes place → ⊥
never-strays bytes place begins strays = strays.other (sym (within-front 8 place bytes strays.within) ∙ ap (λ (bs : List ℕ). slice_get bs place) begins)

-- These are bytes.
abbrev pub AreBytes : List ℕ → Type 0
AreBytes bytes = (i : ℕ) → get_or bytes i 0 < 256

-- What stands behind some of them are bytes too.
pub bytes-behind : (n : ℕ) (bytes : List ℕ) → AreBytes bytes → AreBytes (drop n bytes)
bytes-behind zero bytes small = small
bytes-behind (suc n) [] small = small
bytes-behind (suc n) (b ∷ bytes) small = bytes-behind n bytes (λ i. small (suc i))

bytes-after : (front bytes : List ℕ) → AreBytes (front ++ bytes) → AreBytes bytes
bytes-after [] bytes small = small
bytes-after (b ∷ front) bytes small = bytes-after front bytes (λ i. small (suc i))

-- the same of two bytes
two-in-front : (bytes : List ℕ) → 2 ≤ length bytes → AreBytes bytes → to_le_bytes w16 (from_le_bytes w16 (take 2 bytes)) ++ drop 2 bytes ≡ bytes
two-in-front [] few small = absurd (omega (arith, few))
two-in-front (a ∷ []) few small = absurd (omega (arith, few))
two-in-front (a ∷ b ∷ bytes) few small = ap (λ (front : List ℕ). front ++ bytes) (le_bytes_2 (a ∷ b ∷ []) (from_le_bytes w16 (a ∷ b ∷ [])) refl each refl)
  where
    each : (i : ℕ) → get_or (a ∷ b ∷ []) i 0 < 256
    each zero = small 0
    each (suc zero) = small 1
    each (suc (suc i)) = omega arith

-- a number was read off the front of what was left
pub numbers-read : (numbers rest bytes front after : List ℕ) (n : ℕ) → AreBytes bytes → numbers_written numbers ++ rest ≡ bytes → 2 ≤ length rest → front ≡ take 2 rest → after ≡ drop 2 rest → n ≡ from_le_bytes w16 front → numbers_written (numbers ++ n ∷ []) ++ after ≡ bytes
numbers-read numbers rest bytes front after n small read long is left number =
    let small_rest : AreBytes rest = bytes-after (numbers_written numbers) rest (subst AreBytes (sym read) small) in
    let number_is : n ≡ from_le_bytes w16 (take 2 rest) = number ∙ ap (from_le_bytes w16) is in
    let two : to_le_bytes w16 n ++ after ≡ rest = (λ i. to_le_bytes w16 (number_is i) ++ left i) ∙ two-in-front rest long small_rest in
    ap (λ (xs : List ℕ). xs ++ after) (numbers-more numbers n) ∙ append_assoc (numbers_written numbers) (to_le_bytes w16 n) after ∙ ap (λ (xs : List ℕ). numbers_written numbers ++ xs) two ∙ read

-- all numbers were read, where less than two bytes are left of as many as two for each number
pub numbers-done : (numbers rest bytes : List ℕ) (count : ℕ) → numbers_written numbers ++ rest ≡ bytes → length rest < 2 → length bytes ≡ 2 * count → (numbers_written numbers ≡ bytes) × (length numbers ≡ count)
numbers-done numbers [] bytes count read less even = (sym (append-nil (numbers_written numbers)) ∙ read, omega (arith, even, ap length read, length-append (numbers_written numbers) [], numbers-length numbers))
numbers-done numbers (b ∷ rest) bytes count read less even = absurd (omega (arith, less, even, ap length read, length-append (numbers_written numbers) (b ∷ rest), numbers-length numbers))
