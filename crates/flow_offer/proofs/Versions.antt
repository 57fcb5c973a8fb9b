-- The part of the table of standard kinds that files of a version may name, with kinds of the caller's own behind it.
use Rattle.std.proofs.Common.{◌≡◌, ℕ, zero, suc, Bool, true, false, cond, List, [], ◌∷◌, ◌++◌, map, Some, slice_get, refl, ap, ◌∙◌}
use Rattle.std.specs.Prelude.{◌||◌, not, filter}
use Rattle.std.specs.List.{list_all, list_any}
use Rattle.std.specs.Str.{bytes_eq}
use Rattle.flow_net.proofs.Ends.{and_true}
use Rattle.flow_plan.specs.declared.kind.KindSpec.{KindSpec}
use Rattle.flow_plan.specs.declared.plan.Process.{Process}
use Rattle.flow_plan.specs.declared.plan.PortTable.{PortTable}
use Rattle.flow_net.specs.Kinds.{all_differ, is_kind, is_table}
use Rattle.flow_net.specs.Over.{IsOfKind}
use Rattle.flow_catalogue.specs.declared.table.StdKind.{StdKind}
use Rattle.flow_catalogue.specs.Kinds.{all_kinds, is_of_version, spec_of, std_kinds}
use Rattle.flow_offer.specs.Kinds.{AreOwnKinds, is_among, kind_names, table_of, table_with}
use Rattle.flow_offer.specs.Laws.{ATableOfAVersionIsWithin, OwnKindsMakeTableOf}
use Rattle.flow_offer.proofs.Lists.{both}
use Rattle.flow_offer.proofs.Tables.{own-kinds, table-append}

-- Each kind of such a part with others behind it stands in the whole with them behind it.
within : (keep : StdKind → Bool) (own : List KindSpec) (xs : List StdKind) (i : ℕ) (kind : KindSpec) → slice_get (map spec_of (filter keep xs) ++ own) i ≡ Some kind → (j : ℕ) × (slice_get (map spec_of xs ++ own) j ≡ Some kind)
within keep own [] i kind at = (i, at)
within keep own (x ∷ xs) i kind at = by (keep x) i at (λ k there. within keep own xs k kind there)
  where
    by : (kept : Bool) (i : ℕ) → slice_get (map spec_of (cond kept (x ∷ filter keep xs) (filter keep xs)) ++ own) i ≡ Some kind
        → ((k : ℕ) → slice_get (map spec_of (filter keep xs) ++ own) k ≡ Some kind → (j : ℕ) × (slice_get (map spec_of xs ++ own) j ≡ Some kind)) → (j : ℕ) × (slice_get (map spec_of (x ∷ xs) ++ own) j ≡ Some kind)
    by true zero at more = (0, at)
    by true (suc i) at more = let later = more i at in (suc later.0, later.1)
    by false i at more = let later = more i at in (suc later.0, later.1)

of-all : (version : ℕ) (own : List KindSpec) (x : Process) (table : PortTable) → IsOfKind (table_of version own) x table → IsOfKind (table_with own) x table
of-all version own x table is =
    let found = within (is_of_version version) own all_kinds is.place is.kind is.here in
    record { place = found.0; kind = is.kind; here = found.1; name = is.name; inputs = is.inputs; outputs = is.outputs }

-- A plan over the kinds of a version is one over all.
pub version-within : ATableOfAVersionIsWithin
version-within version own plan over = record { each = λ p x table there tabled. of-all version own x table (over.each p x table there tabled) }

-- None of a part is such where none of the whole is.
none-kept : (p : List ℕ → Bool) (keep : StdKind → Bool) (xs : List StdKind) → list_any p (kind_names (map spec_of xs)) ≡ false → list_any p (kind_names (map spec_of (filter keep xs))) ≡ false
none-kept p keep [] none = refl
none-kept p keep (x ∷ xs) none = by (keep x) (p (spec_of x).name) refl none (none-kept p keep xs)
  where
    by : (kept such : Bool) → p (spec_of x).name ≡ such → (such || list_any p (kind_names (map spec_of xs))) ≡ false
        → (list_any p (kind_names (map spec_of xs)) ≡ false → list_any p (kind_names (map spec_of (filter keep xs))) ≡ false)
        → list_any p (kind_names (map spec_of (cond kept (x ∷ filter keep xs) (filter keep xs)))) ≡ false
    by kept true is none more = absurd cc
    by true false is none more = ap (λ (such : Bool). such || list_any p (kind_names (map spec_of (filter keep xs)))) is ∙ more none
    by false false is none more = more none

negated : (b : Bool) → not b ≡ true → b ≡ false
negated true is = absurd cc
negated false is = refl

kinds-kept : (keep : StdKind → Bool) (xs : List StdKind) → list_all is_kind (map spec_of xs) ≡ true → list_all is_kind (map spec_of (filter keep xs)) ≡ true
kinds-kept keep [] are = refl
kinds-kept keep (x ∷ xs) are =
    let each = and_true (is_kind (spec_of x)) (list_all is_kind (map spec_of xs)) are in
    by (keep x) (kinds-kept keep xs each.1) each.0
  where
    by : (kept : Bool) → list_all is_kind (map spec_of (filter keep xs)) ≡ true → is_kind (spec_of x) ≡ true → list_all is_kind (map spec_of (cond kept (x ∷ filter keep xs) (filter keep xs))) ≡ true
    by true more is = both (is_kind (spec_of x)) (list_all is_kind (map spec_of (filter keep xs))) is more
    by false more is = more

differ-kept : (keep : StdKind → Bool) (xs : List StdKind) → all_differ (kind_names (map spec_of xs)) ≡ true → all_differ (kind_names (map spec_of (filter keep xs))) ≡ true
differ-kept keep [] differ = refl
differ-kept keep (x ∷ xs) differ =
    let among : Bool = is_among (kind_names (map spec_of xs)) (spec_of x).name in
    let each = and_true (not among) (all_differ (kind_names (map spec_of xs))) differ in
    by (keep x) (differ-kept keep xs each.1) (none-kept (bytes_eq (spec_of x).name) keep xs (negated among each.0))
  where
    by : (kept : Bool) → all_differ (kind_names (map spec_of (filter keep xs))) ≡ true → list_any (bytes_eq (spec_of x).name) (kind_names (map spec_of (filter keep xs))) ≡ false
        → all_differ (kind_names (map spec_of (cond kept (x ∷ filter keep xs) (filter keep xs)))) ≡ true
    by true more none = both (not (list_any (bytes_eq (spec_of x).name) (kind_names (map spec_of (filter keep xs))))) (all_differ (kind_names (map spec_of (filter keep xs)))) (ap not none) more
    by false more none = more

-- A part of a table of which none is among the caller's own is one with these behind it.
part-table : (keep : StdKind → Bool) (xs : List StdKind) (own : List KindSpec) → is_table (map spec_of xs) ≡ true → AreOwnKinds own → list_any (is_among (kind_names own)) (kind_names (map spec_of xs)) ≡ false
    → is_table (map spec_of (filter keep xs) ++ own) ≡ true
part-table keep xs own table are none =
    let part = map spec_of (filter keep xs) in
    let whole = and_true (list_all is_kind (map spec_of xs)) (all_differ (kind_names (map spec_of xs))) table in
    let is = both (list_all is_kind part) (all_differ (kind_names part)) (kinds-kept keep xs whole.0) (differ-kept keep xs whole.1) in
    table-append part own is (own-kinds own are.inputs are.outputs are.few_ports are.ports_differ) are.differ (ap not (none-kept (is_among (kind_names own)) keep xs none))

-- Such a part and kinds of the caller's own are a table.
pub own-kinds-version : OwnKindsMakeTableOf
own-kinds-version version own are = part-table (is_of_version version) all_kinds own refl are (negated (list_any (is_among (kind_names own)) (kind_names std_kinds)) are.none_standard)
