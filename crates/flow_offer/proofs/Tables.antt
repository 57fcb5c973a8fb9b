-- The standard kinds with kinds of the caller's own behind them are a table of kinds.
use Rattle.std.proofs.Common.{◌≡◌, Bool, true, false, List, [], ◌∷◌, ◌++◌, refl, ap, ◌∙◌}
use Rattle.std.specs.Prelude.{◌&&◌, not, if◌then◌else◌}
use Rattle.std.specs.List.{list_all, list_any}
use Rattle.std.proofs.lemmas.List.{map-append}
use Rattle.std.proofs.lemmas.List.Folds.{list_all-append}
use Rattle.flow_net.proofs.Ends.{and_true}
use Rattle.flow_net.specs.Kinds.{all_differ, is_input, is_needed_array, is_kind, is_table}
use Rattle.flow_plan.specs.Network.{is_stream}
use Rattle.flow_plan.specs.declared.kind.PortSpec.{PortSpec}
use Rattle.flow_plan.specs.declared.kind.KindSpec.{KindSpec}
use Rattle.flow_catalogue.specs.Kinds.{std_kinds}
use Rattle.flow_offer.specs.Kinds.{kind_names, is_among, names_file, is_own_input, is_own_output, has_own_inputs, has_own_outputs, has_different_ports, has_few_ports}
use Rattle.flow_offer.specs.Laws.{OwnKindsMakeTable}
use Rattle.flow_offer.proofs.Lists.{both, all-weaker, differ-append}

own-input : (port : PortSpec) → is_own_input port ≡ true → is_input port ≡ true
own-input port is = by (is_stream port.class) is
  where
    by : (stream : Bool) → (if stream then port.needed else (not port.array && not (names_file port.class))) ≡ true → (if stream then port.needed else not port.array) ≡ true
    by true is = is
    by false is = (and_true (not port.array) (not (names_file port.class)) is).0

own-output : (port : PortSpec) → is_own_output port ≡ true → is_needed_array port ≡ true
own-output port is = (and_true (is_stream port.class) (is_needed_array port) is).1

own-kind : (kind : KindSpec) → has_own_inputs kind ≡ true → has_own_outputs kind ≡ true → has_few_ports kind ≡ true → has_different_ports kind ≡ true → is_kind kind ≡ true
own-kind kind inputs outputs few different =
    both (list_all is_input kind.inputs && list_all is_needed_array kind.outputs) (has_few_ports kind && has_different_ports kind)
    (both (list_all is_input kind.inputs) (list_all is_needed_array kind.outputs) (all-weaker is_own_input is_input own-input kind.inputs inputs) (all-weaker is_own_output is_needed_array own-output kind.outputs outputs))
    (both (has_few_ports kind) (has_different_ports kind) few different)

pub own-kinds : (own : List KindSpec) → list_all has_own_inputs own ≡ true → list_all has_own_outputs own ≡ true → list_all has_few_ports own ≡ true → list_all has_different_ports own ≡ true → list_all is_kind own ≡ true
own-kinds [] inputs outputs few different = refl
own-kinds (kind ∷ own) inputs outputs few different =
    let i = and_true (has_own_inputs kind) (list_all has_own_inputs own) inputs in
    let o = and_true (has_own_outputs kind) (list_all has_own_outputs own) outputs in
    let f = and_true (has_few_ports kind) (list_all has_few_ports own) few in
    let d = and_true (has_different_ports kind) (list_all has_different_ports own) different in
    both (is_kind kind) (list_all is_kind own) (own-kind kind i.0 o.0 f.0 d.0) (own-kinds own i.1 o.1 f.1 d.1)

-- a table with kinds behind it, each of which is one, whose names differ from each other and from those of the table
pub table-append : (kinds own : List KindSpec) → is_table kinds ≡ true → list_all is_kind own ≡ true → all_differ (kind_names own) ≡ true → not (list_any (is_among (kind_names own)) (kind_names kinds)) ≡ true → is_table (kinds ++ own) ≡ true
table-append kinds own table each differ none =
    let t = and_true (list_all is_kind kinds) (all_differ (kind_names kinds)) table in
    both (list_all is_kind (kinds ++ own)) (all_differ (kind_names (kinds ++ own)))
    (list_all-append is_kind kinds own ∙ both (list_all is_kind kinds) (list_all is_kind own) t.0 each)
    (ap all_differ (map-append (λ (kind : KindSpec). kind.name) kinds own) ∙ differ-append (kind_names kinds) (kind_names own) t.1 differ none)

-- The standard kinds and these are a table.
pub own-kinds-table : OwnKindsMakeTable
own-kinds-table own are = table-append std_kinds own refl (own-kinds own are.inputs are.outputs are.few_ports are.ports_differ) are.differ are.none_standard
