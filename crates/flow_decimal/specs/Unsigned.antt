-- What the reading of a text without a sign comes to.
use Rattle.std.specs.Prelude.{ℕ, ◌^◌, List, length, nat_lt, Result, Ok, Err, if◌then◌else◌}
use Rattle.flow_decimal.specs.declared.decimal.NumberStop.{NumberStop}
use Rattle.flow_decimal.specs.declared.decimal.NumberStop.TheVariants.{NoNumber, TooLarge}
use Rattle.flow_decimal.specs.declared.reading.Unsigned.{Unsigned}
use Rattle.flow_decimal.specs.Numbers.{back, is_unsigned, size_in}

-- The digits as one whole number, where it has 128 bits, and how many stand behind the point.
abbrev pub unsigned_reading : List ℕ → Result Unsigned NumberStop
unsigned_reading text =
    if is_unsigned text
    then (if nat_lt (size_in text) (2 ^ 128) then Ok (record { size = size_in text; fraction = length (back text) }) else Err TooLarge)
    else Err NoNumber
