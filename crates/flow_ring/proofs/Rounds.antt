-- No two words of a floor whose connections have two ends are on one line, and no two slots at one place.
use Rattle.std.proofs.Common.{◌≡◌, ℕ, zero, suc, ◌+◌, ◌-◌, ◌*◌, ◌/◌, ◌%◌, ◌<◌, ◌≤◌, ◌⊎◌, inl, inr, List, [], ◌∷◌, ◌++◌, length, get_or, arith, refl, ap, ◌∙◌}
use Rattle.std.proofs.lemmas.Nat.{div-add-mod', mod-mul-add, mod_below}
use mathlib.Core.Logic.{dite}
use native.Mathlib.Decide.{dec_lt}
use Rattle.flow_ring.specs.declared.layout.TheConstants.{SPACING}
use Rattle.flow_ring.specs.Places.{Word, process, level, gate, clock, live, body, puts, takes, cell, IsWord, rank_of, cells_before, OneLineEach, WordsWithin, OnePlaceEach, SlotsWithin, CellsApart}

-- the words on one line have one rank
one-rank : (first i j : ℕ) → (first + i * SPACING) / 8 ≡ (first + j * SPACING) / 8 → i ≡ j
one-rank first i j same = omega (arith, same)

-- words of one rank are one word
one-word : (n m : ℕ) (a b : Word) → IsWord n m a → IsWord n m b → rank_of n m a ≡ rank_of n m b → a ≡ b
one-word n m (process p) (process q) low high same = ap process same
one-word n m (process p) (level d) low high same = absurd (omega (arith, low, same))
one-word n m (process p) (gate d) low high same = absurd (omega (arith, low, same))
one-word n m (process p) clock low high same = absurd (omega (arith, low, same))
one-word n m (process p) live low high same = absurd (omega (arith, low, same))
one-word n m (level c) (process q) low high same = absurd (omega (arith, high, same))
one-word n m (level c) (level d) low high same = ap level (let e : c ≡ d = omega (arith, same) in e)
one-word n m (level c) (gate d) low high same = absurd (omega (arith, low, same))
one-word n m (level c) clock low high same = absurd (omega (arith, low, same))
one-word n m (level c) live low high same = absurd (omega (arith, low, same))
one-word n m (gate c) (process q) low high same = absurd (omega (arith, high, same))
one-word n m (gate c) (level d) low high same = absurd (omega (arith, high, same))
one-word n m (gate c) (gate d) low high same = ap gate (let e : c ≡ d = omega (arith, same) in e)
one-word n m (gate c) clock low high same = absurd (omega (arith, low, same))
one-word n m (gate c) live low high same = absurd (omega (arith, low, same))
one-word n m clock (process q) low high same = absurd (omega (arith, high, same))
one-word n m clock (level d) low high same = absurd (omega (arith, high, same))
one-word n m clock (gate d) low high same = absurd (omega (arith, high, same))
one-word n m clock clock low high same = refl
one-word n m clock live low high same = absurd (omega (arith, same))
one-word n m live (process q) low high same = absurd (omega (arith, high, same))
one-word n m live (level d) low high same = absurd (omega (arith, high, same))
one-word n m live (gate d) low high same = absurd (omega (arith, high, same))
one-word n m live clock low high same = absurd (omega (arith, same))
one-word n m live live low high same = refl

pub lines-apart : (n m : ℕ) → OneLineEach n m
lines-apart n m first a b is_a is_b same = one-word n m a b is_a is_b (one-rank first (rank_of n m a) (rank_of n m b) same)

pub words-within : (n m : ℕ) → WordsWithin n m
words-within n m (process p) is = omega (arith, is)
words-within n m (level c) is = omega (arith, is)
words-within n m (gate c) is = omega (arith, is)
words-within n m clock is = omega arith
words-within n m live is = omega arith

-- The cells of two connections differ, and so do two of one.
pub cells-apart : (capacities : List ℕ) (c d i j : ℕ) → i < get_or capacities c 0 → j < get_or capacities d 0 → cells_before capacities c + i ≡ cells_before capacities d + j → (c ≡ d) × (i ≡ j)
cells-apart [] c d i j low high same = absurd (omega (arith, low))
cells-apart (x ∷ xs) zero zero i j low high same = (refl, omega (arith, same))
cells-apart (x ∷ xs) zero (suc d) i j low high same = absurd (omega (arith, low, same))
cells-apart (x ∷ xs) (suc c) zero i j low high same = absurd (omega (arith, high, same))
cells-apart (x ∷ xs) (suc c) (suc d) i j low high same = let r = cells-apart xs c d i j low high (omega (arith, same)) in (ap suc r.0, r.1)

-- Each cell is one of so many.
pub cells-within : (capacities : List ℕ) (c i : ℕ) → i < get_or capacities c 0 → cells_before capacities c + i < cells_before capacities (length capacities)
cells-within [] c i low = absurd (omega (arith, low))
cells-within (x ∷ xs) zero i low = omega (arith, low)
cells-within (x ∷ xs) (suc c) i low = let r = cells-within xs c i low in omega (arith, r)

pub places-apart : (n : ℕ) (capacities : List ℕ) → OnePlaceEach n capacities
places-apart n capacities (body p) (body q) low high same = ap body same
places-apart n capacities (body p) (puts d) low high same = absurd (omega (arith, low, same))
places-apart n capacities (body p) (takes d) low high same = absurd (omega (arith, low, same))
places-apart n capacities (body p) (cell d j) low high same = absurd (omega (arith, low, same))
places-apart n capacities (puts c) (body q) low high same = absurd (omega (arith, high, same))
places-apart n capacities (puts c) (puts d) low high same = ap puts (let e : c ≡ d = omega (arith, same) in e)
places-apart n capacities (puts c) (takes d) low high same = absurd (omega (arith, low, same))
places-apart n capacities (puts c) (cell d j) low high same = absurd (omega (arith, low, same))
places-apart n capacities (takes c) (body q) low high same = absurd (omega (arith, high, same))
places-apart n capacities (takes c) (puts d) low high same = absurd (omega (arith, high, same))
places-apart n capacities (takes c) (takes d) low high same = ap takes (let e : c ≡ d = omega (arith, same) in e)
places-apart n capacities (takes c) (cell d j) low high same = absurd (omega (arith, low, same))
places-apart n capacities (cell c i) (body q) low high same = absurd (omega (arith, high, same))
places-apart n capacities (cell c i) (puts d) low high same = absurd (omega (arith, high, same))
places-apart n capacities (cell c i) (takes d) low high same = absurd (omega (arith, high, same))
places-apart n capacities (cell c i) (cell d j) low high same = let r = cells-apart capacities c d i j low.1 high.1 (omega (arith, same)) in (λ k. cell (r.0 k) (r.1 k))

pub slots-within : (n : ℕ) (capacities : List ℕ) → SlotsWithin n capacities
slots-within n capacities (body p) is = omega (arith, is)
slots-within n capacities (puts c) is = omega (arith, is)
slots-within n capacities (takes c) is = omega (arith, is)
slots-within n capacities (cell c i) is = omega (arith, cells-within capacities c i is.1)

-- A remainder after less than one more round: it goes on, or begins again.
mod-on : (m t i : ℕ) → i < m → (((t + i) % m ≡ t % m + i) × (t % m + i < m)) ⊎ ((t + i) % m + m ≡ t % m + i)
mod-on m t i low = dite (dec_lt (t % m + i) m)
    (λ fits. inl (ap (λ (x : ℕ). x % m) (let e : t + i ≡ (t / m) * m + (t % m + i) = omega (arith, whole) in e) ∙ mod-mul-add (t / m) m (t % m + i) fits, fits))
    (λ over. inr (
    let left : t % m + i - m < m = omega (arith, over, rest, low) in
    let e : t + i ≡ suc (t / m) * m + (t % m + i - m) = omega (arith, whole, over, more) in
    let r : (t + i) % m ≡ t % m + i - m = ap (λ (x : ℕ). x % m) e ∙ mod-mul-add (suc (t / m)) m (t % m + i - m) left in
    omega (arith, r, over)))
  where
    whole : (t / m) * m + t % m ≡ t
    whole = div-add-mod' t m

    rest : t % m < m
    rest = mod_below t m (omega (arith, low))

    more : suc (t / m) * m ≡ (t / m) * m + m
    more = omega arith

-- Two places that differ by less than the capacity have two remainders.
pub mod-apart : (m t i j : ℕ) → i < m → j < m → (t + i) % m ≡ (t + j) % m → i ≡ j
mod-apart m t i j low high same = by (mod-on m t i low) (mod-on m t j high)
  where
    rest : t % m < m
    rest = mod_below t m (omega (arith, low))

    by : (((t + i) % m ≡ t % m + i) × (t % m + i < m)) ⊎ ((t + i) % m + m ≡ t % m + i) → (((t + j) % m ≡ t % m + j) × (t % m + j < m)) ⊎ ((t + j) % m + m ≡ t % m + j) → i ≡ j
    by (inl a) (inl b) = omega (arith, a.0, b.0, same)
    by (inl a) (inr b) = absurd (omega (arith, a.0, b, same, high))
    by (inr a) (inl b) = absurd (omega (arith, a, b.0, same, low))
    by (inr a) (inr b) = omega (arith, a, b, same)

-- A whole round ends where it began.
pub mod-round : (m t : ℕ) → 0 < m → (t + m) % m ≡ t % m
mod-round m t some_m =
    let whole = div-add-mod' t m in
    let more : suc (t / m) * m ≡ (t / m) * m + m = omega arith in
    ap (λ (x : ℕ). x % m) (let e : t + m ≡ suc (t / m) * m + t % m = omega (arith, whole, more) in e) ∙ mod-mul-add (suc (t / m)) m (t % m) (mod_below t m some_m)

pub rounds-apart : (n : ℕ) (capacities : List ℕ) → CellsApart n capacities
rounds-apart n capacities c first second less within same =
    let m = get_or capacities c 0 in
    let i : ℕ = second - first in
    let e : first % m ≡ second % m = omega (arith, same) in
    let z : 0 ≡ i = mod-apart m first 0 i (omega (arith, less, within)) (omega (arith, less, within)) (ap (λ (x : ℕ). x % m) (let a : first + 0 ≡ first = omega arith in a) ∙ e ∙ ap (λ (x : ℕ). x % m) (let b : second ≡ first + i = omega (arith, less) in b)) in
    omega (arith, z, less)

-- One connection more has its cells too.
pub cells-more : (capacities : List ℕ) (c : ℕ) → c < length capacities → cells_before capacities (c + 1) ≡ cells_before capacities c + get_or capacities c 0
cells-more [] c low = absurd (omega (arith, low))
cells-more (x ∷ xs) zero low = by xs
  where
    by : (xs : List ℕ) → cells_before (x ∷ xs) (zero + 1) ≡ cells_before (x ∷ xs) zero + x
    by [] = omega arith
    by (y ∷ ys) = omega arith
cells-more (x ∷ xs) (suc c) low = let r = cells-more xs c (omega (arith, low)) in let e : suc c + 1 ≡ suc (c + 1) = omega arith in ap (cells_before (x ∷ xs)) e ∙ omega (arith, r)

-- No more connections have no fewer cells than all.
pub cells-most : (capacities : List ℕ) (c : ℕ) → cells_before capacities c ≤ cells_before capacities (length capacities)
cells-most [] c = omega arith
cells-most (x ∷ xs) zero = omega arith
cells-most (x ∷ xs) (suc c) = let r = cells-most xs c in omega (arith, r)

-- None have none.
pub cells-none : (capacities : List ℕ) → cells_before capacities 0 ≡ 0
cells-none [] = refl
cells-none (x ∷ xs) = refl

get-pushed : (xs : List ℕ) (y i : ℕ) → i < length xs → get_or (xs ++ y ∷ []) i 0 ≡ get_or xs i 0
get-pushed [] y i low = absurd (omega (arith, low))
get-pushed (x ∷ xs) y zero low = refl
get-pushed (x ∷ xs) y (suc i) low = get-pushed xs y i (omega (arith, low))

get-last : (xs : List ℕ) (y : ℕ) → get_or (xs ++ y ∷ []) (length xs) 0 ≡ y
get-last [] y = refl
get-last (x ∷ xs) y = get-last xs y

-- One number more in the list of those before.
pub pushed : (capacities firsts more : List ℕ) (before n : ℕ) → more ≡ firsts ++ before ∷ [] → length firsts ≡ n → before ≡ cells_before capacities n → ((i : ℕ) → i < n → get_or firsts i 0 ≡ cells_before capacities i) → (i : ℕ) → i < n + 1 → get_or more i 0 ≡ cells_before capacities i
pushed capacities firsts more before n is count now each i low = ap (λ (xs : List ℕ). get_or xs i 0) is ∙ dite (dec_lt i n)
    (λ old. get-pushed firsts before i (omega (arith, old, count)) ∙ each i old)
    (λ last. let e : i ≡ length firsts = omega (arith, low, last, count) in let f : n ≡ i = omega (arith, e, count) in ap (λ (j : ℕ). get_or (firsts ++ before ∷ []) j 0) e ∙ get-last firsts before ∙ now ∙ ap (cells_before capacities) f)

-- What stands at a place that there is, whatever stands for one that there isn't.
pub get-default : (xs : List ℕ) (i d e : ℕ) → i < length xs → get_or xs i d ≡ get_or xs i e
get-default [] i d e low = absurd (omega (arith, low))
get-default (x ∷ xs) zero d e low = refl
get-default (x ∷ xs) (suc i) d e low = get-default xs i d e (omega (arith, low))
