-- What decimal numbers are worth as fractions: their order, and their sums.
use Rattle.std.specs.Prelude.{ℕ, ◌-◌, ◌^◌, max, ℤ, pos, ◌+ℤ◌, ◌*ℤ◌}
use Rattle.std.specs.declared.cmp.Ordering.{Ordering}
use Rattle.std.specs.Ordering.{int_cmp}
use Rattle.flow_decimal.specs.declared.decimal.Decimal.{Decimal}

-- The whole number of a fraction, over a denominator that is so many times its own.
abbrev pub over : Decimal → ℕ → ℤ
over number times = number.whole *ℤ pos times

-- How two numbers compare: as fractions do, over a denominator that both have, which is the product of theirs.
abbrev pub decimal_cmp : Decimal → Decimal → Ordering
decimal_cmp a b = int_cmp (over a (10 ^ b.fraction)) (over b (10 ^ a.fraction))

-- The number with so many digits behind the point, which are no fewer than it has: zeros are put behind them.
abbrev pub lengthened : Decimal → ℕ → Decimal
lengthened number fraction = record { whole = over number (10 ^ (fraction - number.fraction)); fraction = fraction }

-- The longer of two fractions.
abbrev pub longer : Decimal → Decimal → ℕ
longer a b = max a.fraction b.fraction

-- The sum of two numbers: of their whole numbers, at the longer fraction.
abbrev pub sum : Decimal → Decimal → Decimal
sum a b = record { whole = (lengthened a (longer a b)).whole +ℤ (lengthened b (longer a b)).whole; fraction = longer a b }
