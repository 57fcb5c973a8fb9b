-- What follows from the definitions.
use Rattle.std.specs.Prelude.{◌≡◌, ℕ, ◌≤◌, true, Ok}
use Rattle.std.specs.declared.cmp.Ordering.TheVariants.{Equal}
use Rattle.flow_decimal.specs.declared.decimal.Decimal.{Decimal}
use Rattle.flow_decimal.specs.Numbers.{fits, reading}
use Rattle.flow_decimal.specs.Values.{decimal_cmp, lengthened, sum}
use Rattle.flow_decimal.specs.Spelling.{spelled}

-- The spelling of a number of 128 bits is read as that number.
abbrev pub SpellingReadsBack : Type 0
SpellingReadsBack = (number : Decimal) → fits number.whole ≡ true → reading (spelled number) ≡ Ok number

-- A number is worth what it is with a longer fraction.
abbrev pub LengtheningKeeps : Type 0
LengtheningKeeps = (number : Decimal) (fraction : ℕ) → number.fraction ≤ fraction → decimal_cmp number (lengthened number fraction) ≡ Equal

-- A sum is the same from both sides.
abbrev pub SumsCommute : Type 0
SumsCommute = (a b : Decimal) → sum a b ≡ sum b a
