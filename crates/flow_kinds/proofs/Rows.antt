-- The page is made row by row of the table.
use Rattle.std.proofs.Common.{◌≡◌, ℕ, ◌+◌, ◌<◌, ◌≤◌, List, [], ◌∷◌, ◌++◌, length, take, get_or, refl, sym, ◌∙◌, ap, arith}
use mathlib.Core.Path.{ap₂}
use Rattle.std.specs.List.{flat_map}
use Rattle.std.proofs.lemmas.List.{flat_map_more, get_or-map, length-map, take_all, take_more}
use Rattle.flow_plan.specs.declared.kind.KindSpec.{KindSpec}
use Rattle.flow_catalogue.specs.declared.table.StdKind.{StdKind}
use Rattle.flow_catalogue.specs.declared.table.StdKind.TheVariants.{ReadLines}
use Rattle.flow_catalogue.specs.Kinds.{spec_of, all_kinds, std_kinds}
use Rattle.flow_catalogue.proofs.Names.{name_of-same}
use Rattle.flow_kinds.specs.Page.{IsRow, kind_lines, lines_of, kinds_page}

-- The kind at a place of the table.
abbrev pub kind_at : ℕ → StdKind
kind_at i = get_or all_kinds i ReadLines

-- The table has a row for each kind.
pub as-long : (table : List KindSpec) → table ≡ std_kinds → length table ≡ length all_kinds
as-long table is = ap (λ (l : List KindSpec). length l) is ∙ length-map all_kinds spec_of

-- A row of the table is that of the kind at its place.
pub row-at : (table : List KindSpec) (i : ℕ) (spec : KindSpec) → table ≡ std_kinds → i < length table → spec ≡ get_or table i spec → spec ≡ spec_of (kind_at i)
row-at table i spec is below there =
    there ∙ ap (λ (l : List KindSpec). get_or l i spec) is ∙ get_or-map spec_of all_kinds i ReadLines spec (let long = as-long table is in omega (arith, below, long))

pub is-row : (table : List KindSpec) (i : ℕ) (spec : KindSpec) → table ≡ std_kinds → i < length table → spec ≡ get_or table i spec → IsRow spec
is-row table i spec is below there = (kind_at i, row-at table i spec is below there)

-- A row has one kind.
pub one-kind : (spec : KindSpec) (k l : StdKind) → spec ≡ spec_of k → spec ≡ spec_of l → k ≡ l
one-kind spec k l is other = name_of-same k l (ap (λ (s : KindSpec). s.name) (sym is ∙ other))

-- One more row.
pub page-more : (table : List KindSpec) (i : ℕ) (spec : KindSpec) (kind : StdKind) (before after : List ℕ) → table ≡ std_kinds → i < length table → spec ≡ get_or table i spec
    → spec ≡ spec_of kind → before ≡ flat_map lines_of (take i all_kinds) → after ≡ before ++ kind_lines kind spec → after ≡ flat_map lines_of (take (i + 1) all_kinds)
page-more table i spec kind before after is below there of so_far grown =
    let at = row-at table i spec is below there in
    let same : kind ≡ kind_at i = one-kind spec kind (kind_at i) of at in
    let lines : kind_lines kind spec ≡ lines_of (kind_at i) = ap₂ kind_lines same at in
    let long = as-long table is in
    let more : take (i + 1) all_kinds ≡ take i all_kinds ++ kind_at i ∷ [] = take_more all_kinds i ReadLines (omega (arith, below, long)) in
    grown ∙ ap₂ (λ (a b : List ℕ). a ++ b) so_far lines ∙ flat_map_more lines_of [] (take i all_kinds) (kind_at i) ∙ ap (λ (l : List StdKind). flat_map lines_of l) (sym more)

page-is : flat_map lines_of all_kinds ≡ kinds_page
unfolding kinds_page
page-is = refl

-- All rows.
pub page-whole : (table : List KindSpec) (i : ℕ) (page : List ℕ) → table ≡ std_kinds → length table ≤ i → page ≡ flat_map lines_of (take i all_kinds) → page ≡ kinds_page
page-whole table i page is all so_far =
    let long = as-long table is in
    so_far ∙ ap (λ (l : List StdKind). flat_map lines_of l) (take_all i all_kinds (omega (arith, all, long))) ∙ page-is
