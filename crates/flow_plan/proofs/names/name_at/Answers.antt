use Rattle.std.proofs.Common.{◌≡◌, ◌<◌, ◌≤◌, ◌+◌, ◌-◌, ◌∙◌, ◌++◌, ◌∷◌, [], Some, sym, ap, slice_get, get_or, length, arith}
use Rattle.std.specs.Option.{option_map}
use Rattle.flow_plan.specs.declared.kind.PortRef.{PortRef}
use Rattle.flow_plan.specs.declared.plan.PortRow.{PortRow}
use Rattle.flow_plan.specs.Network.{elements_of, ports_of, spelled, unnumbered}
use Rattle.flow_plan.proofs.PortNames.{ports_of-here, ports_of-past, ports_of-last, length-ports_of-drop}
use Rattle.flow_plan.proofs.names.name_at.Goals as goal

pub returns-then-left-count : goal.returns-then-left-count
returns-then-left-count c =
    let rows = c.args.rows.now in
    let last = unnumbered c.args.automatic.now in
    let i = c.loop-row.row-index in
    let row = c.row-item.result in
    let same = ap (λ (r : PortRow). length (elements_of r)) c.row-item.is in
    let here : c.loop-row.left < length (elements_of (get_or rows i row)) = omega (arith, same, c.numbered-count.ensures, c.if-left-count.true) in
    let found : slice_get (ports_of rows ++ last ∷ []) c.args.number ≡ slice_get (elements_of row) c.loop-row.left =
    sym c.loop-row.invariant.0 ∙ ports_of-here rows i c.loop-row.left row last c.loop-row-test.true here ∙ ap (λ (r : PortRow). slice_get (elements_of r) c.loop-row.left) (sym c.row-item.is) in
    rw found c.element_name.ensures

pub loop-row-preserved : goal.loop-row-preserved
loop-row-preserved c =
    let rows = c.args.rows.now in
    let last = unnumbered c.args.automatic.now in
    let i = c.loop-row.row-index in
    let row = c.row-item.result in
    let same = ap (λ (r : PortRow). length (elements_of r)) c.row-item.is in
    let long = length-ports_of-drop rows i row c.loop-row-test.true in
    let past : c.loop-row.left ≡ length (elements_of (get_or rows i row)) + (c.loop-row.left - c.numbered-count.result) = omega (arith, same, c.numbered-count.ensures, c.if-left-count.false) in
    (sym (ports_of-past rows i c.loop-row.left (c.loop-row.left - c.numbered-count.result) row last c.loop-row-test.true past) ∙ c.loop-row.invariant.0, omega (arith, same, long, past, c.loop-row.invariant.1, c.numbered-count.ensures, c.if-left-count.false))
