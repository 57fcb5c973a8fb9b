-- The pseudo-random numbers of an input: a linear congruential sequence.
use Rattle.std.specs.Prelude.{ℕ, zero, suc, ◌+◌, ◌*◌, ◌%◌}

-- By this each number is multiplied.
abbrev pub multiplier : ℕ
multiplier = 1103515245

-- This is added to the product.
abbrev pub increment : ℕ
increment = 12345

-- The next number is what a division by this leaves.
abbrev pub modulus : ℕ
modulus = 2147483648

-- The number that follows another.
abbrev pub next_number : ℕ → ℕ
next_number number = (number * multiplier + increment) % modulus

-- The number at a place of the sequence that has this one at place 0.
unfoldable pub number_at : ℕ → ℕ → ℕ
number_at first zero = first
number_at first (suc place) = next_number (number_at first place)
