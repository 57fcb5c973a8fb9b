use Rattle.std.proofs.Common.{rules, ◌≡◌, ◌∙◌, ◌+◌, ◌-◌, ◌<◌, false, List, ℕ, length, sym, ap, subst, get_or, arith}
use Rattle.std.proofs.lemmas.List.{with_items_is}
use Rattle.flow_plan.specs.declared.plan.Process.{Process}
use Rattle.flow_plan.specs.declared.plan.Connection.{Connection}
use Rattle.flow_model.specs.Plans.{comes_from, sends_at}
use Rattle.flow_machine.specs.Wires.{AreRows, all_noted}
use Rattle.flow_machine.proofs.PlanLemmas.{position-start}
use Rattle.flow_machine.proofs.WireLemmas.{found_from, no_wires, rows-over, rows-same, rows-senders}
use Rattle.flow_machine.proofs.wires.sending.Goals as goal

pub loop-place-init : goal.loop-place-init
loop-place-init c =
    let len : length c.connections-connections.result.now ≡ length c.args.plan.now.connections = ap (λ (cs : List Connection). length cs) c.connections-connections.ensures in
    let are : AreRows false c.args.plan.now.processes no_wires c.in_ok-rows.rows.items = subst (λ (ps : List Process). AreRows false ps no_wires c.in_ok-rows.rows.items) c.processes.ensures.processes c.in_ok-rows.ensures in
    (rows-over false c.args.plan.now.processes comes_from c.args.plan.now.connections (length c.connections-connections.result.now) c.in_ok-rows.rows.items (omega (arith, len)) are, omega (arith, len))

pub loop-place-preserved : goal.loop-place-preserved
loop-place-preserved c =
    let k : ℕ = c.loop-place.place - 1 in
    let inv = c.loop-place.invariant in
    let x : Connection = c.index-connections-place.result in
    let rows = with_items_is c.loop-place.rows c.note_senders.new.rows (search rules) in
    let noted_is : c.note_senders.new.rows ≡ all_noted c.loop-place.rows.items x.senders k = c.note_senders.ensures ∙ (λ i. all_noted (c.deref_mut.ensures.value i) (c.as_slice-senders.ensures i) k) ∙ ap (λ (y : Connection). all_noted c.loop-place.rows.items y.senders k) (sym c.index-connections-place.is) in
    let within : k < length c.args.plan.now.connections = omega (arith, c.loop-place-test.true, inv.1) in
    let is : x ≡ get_or c.args.plan.now.connections k x = c.index-connections-place.is ∙ ap (λ (cs : List Connection). get_or cs k x) c.connections-connections.ensures in
    let next : c.loop-place.place ≡ k + 1 = omega (arith, c.loop-place-test.true) in
    (subst (AreRows false c.args.plan.now.processes (found_from comes_from c.args.plan.now.connections k)) (sym (rows ∙ noted_is)) (rows-senders c.args.plan.now.processes c.args.plan.now.connections k c.loop-place.place x c.loop-place.rows.items within is next inv.0), omega (arith, inv.1))

pub returns : goal.returns
returns c =
    let first : c.loop-place.place ≡ 0 = omega (arith, c.loop-place-test.false) in
    rows-same false c.args.plan.now.processes (found_from comes_from c.args.plan.now.connections c.loop-place.place) (sends_at c.args.plan.now) c.loop-place.rows.items
    (λ p i. ap (λ (n : ℕ). found_from comes_from c.args.plan.now.connections n p i) first ∙ position-start (comes_from p i) c.args.plan.now.connections) c.loop-place.invariant.0
