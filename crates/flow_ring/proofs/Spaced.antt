-- Words that lie apart, read and changed by their order.
use Rattle.std.proofs.Common.{◌≡◌, ℕ, zero, suc, ◌+◌, ◌*◌, ◌-◌, List, [], ◌∷◌, length, get_or, set, refl, ap, arith}
use Rattle.flow_ring.specs.declared.layout.TheConstants.{SPACING}
use Rattle.flow_ring.specs.Spaced.{ranked_past, ranked}

at-past : (k : ℕ) (ws : List ℕ) (i j : ℕ) → j ≡ k + i * SPACING → get_or (ranked_past k ws) i 0 ≡ get_or ws j 0
at-past k [] i j is = refl
at-past zero (w ∷ ws) zero zero is = refl
at-past zero (w ∷ ws) zero (suc j) is = absurd (omega (arith, is))
at-past zero (w ∷ ws) (suc i) zero is = absurd (omega (arith, is))
at-past zero (w ∷ ws) (suc i) (suc j) is = at-past (SPACING - 1) ws i j (omega (arith, is))
at-past (suc k) (w ∷ ws) i zero is = absurd (omega (arith, is))
at-past (suc k) (w ∷ ws) i (suc j) is = at-past k ws i j (omega (arith, is))

set-past : (k : ℕ) (ws : List ℕ) (i j v : ℕ) → j ≡ k + i * SPACING → ranked_past k (set ws j v) ≡ set (ranked_past k ws) i v
set-past k [] i j v is = refl
set-past zero (w ∷ ws) zero zero v is = refl
set-past zero (w ∷ ws) zero (suc j) v is = absurd (omega (arith, is))
set-past zero (w ∷ ws) (suc i) zero v is = absurd (omega (arith, is))
set-past zero (w ∷ ws) (suc i) (suc j) v is = ap (λ (xs : List ℕ). w ∷ xs) (set-past (SPACING - 1) ws i j v (omega (arith, is)))
set-past (suc k) (w ∷ ws) i zero v is = absurd (omega (arith, is))
set-past (suc k) (w ∷ ws) i (suc j) v is = set-past k ws i j v (omega (arith, is))

length-past : (k : ℕ) (ws : List ℕ) (n : ℕ) → length ws ≡ k + n * SPACING → length (ranked_past k ws) ≡ n
length-past k [] n is = omega (arith, is)
length-past zero (w ∷ ws) zero is = absurd (omega (arith, is))
length-past zero (w ∷ ws) (suc n) is = ap suc (length-past (SPACING - 1) ws n (omega (arith, is)))
length-past (suc k) (w ∷ ws) n is = length-past k ws n (omega (arith, is))

-- The i-th word is that at the i-th place.
pub ranked-at : (ws : List ℕ) (i : ℕ) → get_or (ranked ws) i 0 ≡ get_or ws (i * SPACING) 0
ranked-at ws i = at-past 0 ws i (i * SPACING) (omega arith)

-- To change the word at the i-th place is to change the i-th word.
pub ranked-set : (ws : List ℕ) (i v : ℕ) → ranked (set ws (i * SPACING) v) ≡ set (ranked ws) i v
ranked-set ws i v = set-past 0 ws i (i * SPACING) v (omega arith)

-- There are as many words as there are spacings.
pub ranked-length : (ws : List ℕ) (n : ℕ) → length ws ≡ n * SPACING → length (ranked ws) ≡ n
ranked-length ws n is = length-past 0 ws n (omega (arith, is))
