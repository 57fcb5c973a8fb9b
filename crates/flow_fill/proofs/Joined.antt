-- The lines of a text with the subnets of other files behind it.
use Rattle.std.proofs.Common.{◌≡◌, ℕ, Bool, true, false, cond, List, [], ◌∷◌, ◌++◌, sym, ap, ◌∙◌}
use Rattle.std.specs.Prelude.{codes}
use Rattle.std.specs.List.{AllByRecursion, flat_map}
use Rattle.std.specs.Str.Lines.{lines}
use Rattle.flow_fill.specs.Reading.{begins_with}
use Rattle.flow_fill.specs.Filling.{text_of}
use Rattle.flow_fill.specs.Joining.{brought_by, row_here, subnet_rows, within_after}
use Rattle.flow_fill.proofs.TextLaws.{InLine, lines_in_line, text_lines}
use Rattle.flow_fill.proofs.Steps.{text_append}

all_append : (xs ys : List (List ℕ)) → AllByRecursion InLine xs → AllByRecursion InLine ys → AllByRecursion InLine (xs ++ ys)
all_append [] ys a b = b
all_append (x ∷ xs) ys a b = (a.0, all_append xs ys a.1 b)

row_in_line : (within : Bool) (line : List ℕ) → InLine line → InLine (row_here within line)
row_in_line true line all = all
row_in_line false line all = elim (begins_with (codes "subnet") line) as (λ v. InLine (cond v line [])) [
  | true ↦ all
  | false ↦ tt
]

rows_in_line : (within : Bool) (rows : List (List ℕ)) → AllByRecursion InLine rows → AllByRecursion InLine (subnet_rows within rows)
rows_in_line within [] all = tt
rows_in_line within (row ∷ rows) all = (row_in_line within row all.0, rows_in_line (within_after within row) rows all.1)

brought_in_line : (files : List (List ℕ)) → AllByRecursion InLine (flat_map brought_by files)
brought_in_line [] = tt
brought_in_line (file ∷ files) = all_append (brought_by file) (flat_map brought_by files) (rows_in_line false (lines file) (lines_in_line file)) (brought_in_line files)

-- A text that was put line by line, and the subnets of files behind it, has their lines.
pub joined_lines : (text bytes first out : List ℕ) (rows files : List (List ℕ)) → rows ≡ lines text → first ≡ [] → out ≡ first ++ text_of rows → bytes ≡ out ++ text_of (flat_map brought_by files)
    → lines bytes ≡ lines text ++ flat_map brought_by files
joined_lines text bytes first out rows files cut none put behind =
    let whole : bytes ≡ text_of (lines text ++ flat_map brought_by files) =
    behind ∙ ap (λ (l : List ℕ). l ++ text_of (flat_map brought_by files)) (put ∙ ap (λ (l : List ℕ). l ++ text_of rows) none ∙ ap text_of cut) ∙ sym (text_append (lines text) (flat_map brought_by files)) in
    ap lines whole ∙ text_lines (lines text ++ flat_map brought_by files) (all_append (lines text) (flat_map brought_by files) (lines_in_line text) (brought_in_line files))
