-- Bounds: a comparison, and the number that is compared with. (The signs are the usual ones; that blanks may stand behind a sign is this
-- project's own.)
use Rattle.std.specs.Prelude.{ℕ, ◌==◌, Bool, not, ◌&&◌, ◌||◌, List, drop, slice_index, Option, Some, None, Result, Ok, Err, if◌then◌else◌}
use Rattle.std.specs.declared.cmp.Ordering.{Ordering}
use Rattle.std.specs.List.{position_or_len}
use Rattle.std.specs.Ordering.{is_gt, is_ge, is_eq, is_ne, is_lt, is_le}
use Rattle.flow_decimal.specs.declared.decimal.Decimal.{Decimal}
use Rattle.flow_decimal.specs.declared.decimal.NumberStop.{NumberStop}
use Rattle.flow_decimal.specs.declared.bound.Bound.{Bound}
use Rattle.flow_decimal.specs.declared.bound.BoundStop.{BoundStop}
use Rattle.flow_decimal.specs.declared.bound.BoundStop.TheVariants.{NoComparison, Number}
use Rattle.flow_decimal.specs.declared.bound.Comparison.{Comparison}
use Rattle.flow_decimal.specs.declared.bound.Comparison.TheVariants.{Above, AtLeast, Same, Other, Below, AtMost}
use Rattle.flow_decimal.specs.Numbers.{reading}
use Rattle.flow_decimal.specs.Values.{decimal_cmp}

-- The comparison that two bytes begin: 33 is `!`, 60 is `<`, 61 is `=` and 62 is `>`. Of `>` and `>=` it is the longer one.
abbrev pub comparison_of : ℕ → ℕ → Option Comparison
comparison_of first second =
    if first == 62 then Some (if second == 61 then AtLeast else Above)
    else (if first == 60 then Some (if second == 61 then AtMost else Below)
    else (if first == 61 then Some Same
    else (if first == 33 && second == 61 then Some Other else None)))

-- The comparison that a text begins with.
abbrev pub comparison_in : List ℕ → Option Comparison
comparison_in text = comparison_of (slice_index text 0) (slice_index text 1)

-- How many bytes its sign has.
abbrev pub sign_length : Comparison → ℕ
sign_length Above = 1
sign_length AtLeast = 2
sign_length Same = 1
sign_length Other = 2
sign_length Below = 1
sign_length AtMost = 2

-- A byte that is no blank: blanks are the space and the tab.
abbrev pub is_no_blank : ℕ → Bool
is_no_blank byte = not (byte == 32 || byte == 9)

-- What stands behind the blanks at the beginning of a text.
abbrev pub behind_blanks : List ℕ → List ℕ
behind_blanks text = drop (position_or_len is_no_blank text) text

-- A bound of what was read, or why its number is refused.
abbrev pub bound_of : Comparison → Result Decimal NumberStop → Result Bound BoundStop
bound_of comparison (Ok number) = Ok (record { comparison = comparison; number = number })
bound_of comparison (Err stop) = Err (Number stop)

-- What the reading of the rest comes to, behind this comparison.
abbrev pub bound_behind : List ℕ → Option Comparison → Result Bound BoundStop
bound_behind text None = Err NoComparison
bound_behind text (Some comparison) = bound_of comparison (reading (behind_blanks (drop (sign_length comparison) text)))

-- What the reading of a bound comes to: a comparison, blanks or none, and a number behind them.
abbrev pub bound_reading : List ℕ → Result Bound BoundStop
bound_reading text = bound_behind text (comparison_in text)

-- A number that compares so with the bound's meets it.
abbrev pub meets : Comparison → Ordering → Bool
meets Above order = is_gt order
meets AtLeast order = is_ge order
meets Same order = is_eq order
meets Other order = is_ne order
meets Below order = is_lt order
meets AtMost order = is_le order

-- The bound holds for a number.
abbrev pub bound_holds : Bound → Decimal → Bool
bound_holds bound number = meets bound.comparison (decimal_cmp number bound.number)
