use Rattle.std.proofs.Common.{◌<◌, ◌≤◌, length, ◌∙◌, arith}
use Rattle.flow_kinds.proofs.Rows.{is-row, page-more, page-whole}
use Rattle.flow_kinds.proofs.page.kinds_page.Goals as goal

pub kind_of-requires : goal.kind_of-requires
kind_of-requires c =
    let table = c.deref-spec-items.result.now in
    let below : c.loop-spec.spec-index < length table = omega (arith, c.loop-spec-test.true) in
    is-row table c.loop-spec.spec-index c.spec-item.result (c.deref-spec-items.ensures.value ∙ c.in_ok-table.ensures) below c.spec-item.is

pub loop-spec-preserved : goal.loop-spec-preserved
loop-spec-preserved c =
    let table = c.deref-spec-items.result.now in
    let below : c.loop-spec.spec-index < length table = omega (arith, c.loop-spec-test.true) in
    page-more table c.loop-spec.spec-index c.spec-item.result c.kind_of.result c.loop-spec.page.items c.put_kind.new.page.items
    (c.deref-spec-items.ensures.value ∙ c.in_ok-table.ensures) below c.spec-item.is c.kind_of.ensures c.loop-spec.invariant c.in_ok-put_kind.ensures

pub returns : goal.returns
returns c =
    let table = c.deref-spec-items.result.now in
    let all : length table ≤ c.loop-spec.spec-index = omega (arith, c.loop-spec-test.false) in
    page-whole table c.loop-spec.spec-index c.loop-spec.page.items (c.deref-spec-items.ensures.value ∙ c.in_ok-table.ensures) all c.loop-spec.invariant
