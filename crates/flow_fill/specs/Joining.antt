-- The subnets of other files, behind the lines of one.
use Rattle.std.specs.Prelude.{ℕ, List, [], ◌∷◌, ◌++◌, Option, Some, None, Bool, true, false, not, if◌then◌else◌, codes}
use Rattle.std.specs.Str.Lines.{lines}
use Rattle.flow_fill.specs.declared.place.Place.{Place}
use Rattle.flow_fill.specs.declared.place.Place.TheVariants.{Head, Main, Inside, Other}
use Rattle.flow_fill.specs.Reading.{begins_with, use_line}
use Rattle.flow_fill.specs.Filling.{place_after}

-- The file of a `use` line, where the line is one.
abbrev pub file_of : Option (List ℕ) → List (List ℕ)
file_of None = []
file_of (Some file) = file ∷ []

-- The file that a line uses, where the line stands in the main part.
abbrev pub used_here : Place → List ℕ → List (List ℕ)
used_here Main line = file_of (use_line line)
used_here Head line = []
used_here Inside line = []
used_here Other line = []

-- The files that the lines use that stand from here on.
abbrev pub used_from : Place → List (List ℕ) → List (List ℕ)
used_from place [] = []
used_from place (line ∷ more) = used_here place line ++ used_from (place_after place line) more

-- The files that these lines of a file use, in their order.
abbrev pub used_in : List (List ℕ) → List (List ℕ)
used_in lines = used_from Head lines

-- The next line stands within a subnet, where this one does or doesn't.
abbrev pub within_after : Bool → List ℕ → Bool
within_after false line = begins_with (codes "subnet") line
within_after true line = not (begins_with (codes "end") line)

-- A line of a subnet, as it is: within one, or it begins one. Any other line becomes an empty one.
abbrev pub row_here : Bool → List ℕ → List ℕ
row_here true line = line
row_here false line = if begins_with (codes "subnet") line then line else []

-- These lines, the first of which stands within a subnet or not, with nothing left but subnets, each from its `subnet` to its `end`.
abbrev pub subnet_rows : Bool → List (List ℕ) → List (List ℕ)
subnet_rows within [] = []
subnet_rows within (line ∷ more) = row_here within line ∷ subnet_rows (within_after within line) more

-- The lines of a file with nothing left but its subnets, each line at its place.
abbrev pub brought_by : List ℕ → List (List ℕ)
brought_by text = subnet_rows false (lines text)
