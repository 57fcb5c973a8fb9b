use Rattle.std.proofs.Common.{◌≡◌, ◌≢◌, ◌∙◌, Some, slice_get, sym, ap, arith, below_more, get_or}
use Rattle.std.proofs.lemmas.Bool.{false≢true}
use Rattle.std.proofs.lemmas.Option.{slice_get_within, get_or_from_slice_get}
use Rattle.std.proofs.lemmas.Slice.Eq.{bytes_eq-Decides}
use Rattle.flow_catalogue.specs.declared.table.StdKind.{StdKind}
use Rattle.flow_catalogue.specs.declared.table.StdKind.TheVariants as kinds
use Rattle.flow_catalogue.specs.Kinds.{name_of, all_kinds}
use Rattle.flow_catalogue.proofs.Names.{place-of}
use Rattle.flow_catalogue.proofs.table.StdKind.named.Goals as goal

pub loop-kind-preserved : goal.loop-kind-preserved
loop-kind-preserved c = λ k kind l at.
    below_more (λ k. (kind : StdKind) → slice_get all_kinds k ≡ Some kind → name_of kind ≢ c.args.name.now) c.loop-kind.kind-index
    (λ k l kind at. c.loop-kind.invariant k kind l at) (λ kind at named.
    let there : c.name.result.now ≡ name_of (get_or all_kinds c.loop-kind.kind-index kinds.ReadLines) = c.name.ensures in
    let same : get_or all_kinds c.loop-kind.kind-index kinds.ReadLines ≡ kind = get_or_from_slice_get all_kinds c.loop-kind.kind-index kind kinds.ReadLines at in
    let test = (bytes_eq-Decides c.name.result.now c.args.name.now).1 (there ∙ ap name_of same ∙ named) in
    false≢true (sym c.if-eq.false ∙ c.eq.ensures ∙ test)) k l kind at

pub returns : goal.returns
returns c = λ kind.
    let at = place-of kind in
    c.loop-kind.invariant at.0 kind (omega (arith, slice_get_within all_kinds at.0 kind at.1, c.loop-kind-test.false)) at.1
