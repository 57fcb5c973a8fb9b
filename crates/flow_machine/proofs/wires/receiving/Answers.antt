use Rattle.std.proofs.Common.{rules, ◌≡◌, ◌∙◌, ◌+◌, ◌-◌, ◌<◌, true, List, Option, ℕ, length, sym, ap, subst, get_or, arith}
use Rattle.std.proofs.lemmas.List.{with_items_is}
use Rattle.flow_plan.specs.declared.plan.Process.{Process}
use Rattle.flow_plan.specs.declared.plan.Connection.{Connection}
use Rattle.flow_model.specs.Plans.{leads_to, receives_at}
use Rattle.flow_machine.specs.Wires.{AreRows, noted}
use Rattle.flow_machine.proofs.PlanLemmas.{position-start}
use Rattle.flow_machine.proofs.WireLemmas.{found_from, no_wires, rows-over, rows-same, rows-receiver}
use Rattle.flow_machine.proofs.wires.receiving.Goals as goal

pub loop-place-init : goal.loop-place-init
loop-place-init c =
    let len : length c.connections-connections.result.now ≡ length c.args.plan.now.connections = ap (λ (cs : List Connection). length cs) c.connections-connections.ensures in
    let are : AreRows true c.args.plan.now.processes no_wires c.in_ok-rows.rows.items = subst (λ (ps : List Process). AreRows true ps no_wires c.in_ok-rows.rows.items) c.processes.ensures.processes c.in_ok-rows.ensures in
    (rows-over true c.args.plan.now.processes leads_to c.args.plan.now.connections (length c.connections-connections.result.now) c.in_ok-rows.rows.items (omega (arith, len)) are, omega (arith, len))

pub loop-place-preserved : goal.loop-place-preserved
loop-place-preserved c =
    let k : ℕ = c.loop-place.place - 1 in
    let inv = c.loop-place.invariant in
    let x : Connection = c.index-connections-place.result in
    let rows = with_items_is c.loop-place.rows c.note.new.rows (search rules) in
    let noted_is : c.note.new.rows ≡ noted c.loop-place.rows.items x.receiver x.input k = c.note.ensures ∙ ap (λ (rs : List (List (Option ℕ))). noted rs x.receiver x.input k) c.deref_mut.ensures.value in
    let within : k < length c.args.plan.now.connections = omega (arith, c.loop-place-test.true, inv.1) in
    let is : x ≡ get_or c.args.plan.now.connections k x = c.index-connections-place.is ∙ ap (λ (cs : List Connection). get_or cs k x) c.connections-connections.ensures in
    let next : c.loop-place.place ≡ k + 1 = omega (arith, c.loop-place-test.true) in
    (subst (AreRows true c.args.plan.now.processes (found_from leads_to c.args.plan.now.connections k)) (sym (rows ∙ noted_is)) (rows-receiver c.args.plan.now.processes c.args.plan.now.connections k c.loop-place.place x c.loop-place.rows.items within is next inv.0), omega (arith, inv.1))

pub returns : goal.returns
returns c =
    let first : c.loop-place.place ≡ 0 = omega (arith, c.loop-place-test.false) in
    rows-same true c.args.plan.now.processes (found_from leads_to c.args.plan.now.connections c.loop-place.place) (receives_at c.args.plan.now) c.loop-place.rows.items
    (λ p i. ap (λ (n : ℕ). found_from leads_to c.args.plan.now.connections n p i) first ∙ position-start (leads_to p i) c.args.plan.now.connections) c.loop-place.invariant.0
