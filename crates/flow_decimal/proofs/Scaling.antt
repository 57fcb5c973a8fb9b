-- Powers of ten, and numbers with more zeros behind them.
use Rattle.std.proofs.Common.{◌≡◌, ℕ, ◌-◌, ◌*◌, ◌^◌, ◌<◌, ◌≤◌, sym, ap, ◌∙◌, arith}
use Rattle.std.proofs.Math.Nat.{mul_assoc, mul_comm, pow-le-pow_right, le-mul_of_pos_right}
use Rattle.std.proofs.lemmas.Nat.{pow-add}

-- a power beyond the 38th has more than 128 bits
pub power-large : (n : ℕ) → 38 < n → ¬ (10 ^ n < 2 ^ 128)
power-large n h = λ small.
    let less : 10 ^ 39 ≤ 10 ^ n = pow-le-pow_right {n = 10} (omega arith) {i = 39} {j = n} (omega arith) in
    omega arith

-- so has a number with so many zeros
pub scaled-large : (n k : ℕ) → 0 < n → ¬ (10 ^ k < 2 ^ 128) → ¬ (n * 10 ^ k < 2 ^ 128)
scaled-large n k some large = λ small.
    let more : 10 ^ k ≤ 10 ^ k * n = le-mul_of_pos_right (10 ^ k) some in
    large (omega (arith, mul_comm n (10 ^ k)))

-- the zeros of a longer fraction, and those behind them
pub zeros-more : (n a b : ℕ) → b ≤ a → n * 10 ^ (a - b) * 10 ^ b ≡ n * 10 ^ a
zeros-more n a b h =
    mul_assoc n (10 ^ (a - b)) (10 ^ b)
    ∙ ap (λ (k : ℕ). n * k) (sym (pow-add 10 (a - b) b))
    ∙ ap (λ (k : ℕ). n * 10 ^ k) (omega arith)
