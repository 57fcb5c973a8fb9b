use Rattle.std.proofs.Common.{◌%◌, ◌<◌, arith, ap, ◌∙◌}
use Rattle.std.proofs.lemmas.List.Elements.{All-get_or}
use Rattle.std.proofs.lemmas.Nat.{mod_below}
use Rattle.flow_ring.specs.Places.{cells_before}
use Rattle.flow_ring.proofs.Rounds.{cells-within, get-default}
use Rattle.flow_ring.proofs.layout.Layout.cell.Goals as goal

pub overflow_add-result-2 : goal.overflow_add-result-2
overflow_add-result-2 c =
    let f = c.args.self.now in
    let d = c.args.connection in
    let xs = f.capacities.items in
    let some_cell = All-get_or (λ x. 0 < x) xs d 0 (omega (arith, f.counted, c.requires)) f.some in
    let first = c.index-2.ensures ∙ get-default f.firsts.items d c.index-2.result.now 0 (omega (arith, f.before.0, c.requires)) ∙ f.before.1 d (omega (arith, c.requires)) in
    let most = cells-within xs d 0 some_cell in
    let all = ap (cells_before xs) f.counted in
    omega (arith, first, most, all, f.small)

pub overflow_add-result-3 : goal.overflow_add-result-3
overflow_add-result-3 c =
    let f = c.args.self.now in
    let d = c.args.connection in
    let xs = f.capacities.items in
    let some_cell = All-get_or (λ x. 0 < x) xs d 0 (omega (arith, f.counted, c.requires)) f.some in
    let first = c.index-2.ensures ∙ get-default f.firsts.items d c.index-2.result.now 0 (omega (arith, f.before.0, c.requires)) ∙ f.before.1 d (omega (arith, c.requires)) in
    let size = c.index.ensures ∙ get-default xs d c.index.result.now 0 (omega (arith, f.counted, c.requires)) in
    let low = mod_below c.args.place c.index.result.now (omega (arith, some_cell, size)) in
    let most = cells-within xs d (c.args.place % c.index.result.now) (omega (arith, low, size)) in
    let all = ap (cells_before xs) f.counted in
    omega (arith, first, most, all, f.small)
