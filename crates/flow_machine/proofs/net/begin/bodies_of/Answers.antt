use Rattle.std.proofs.Common.{◌≡◌, ◌∙◌, ◌<◌, ℕ, [], ◌∷◌, List, length, map, ap, sym, arith, refl, Some, slice_get, length-append, length-drop, inl, inr}
use Rattle.flow_plan.specs.declared.plan.Process.{Process as NetProcess}
use Rattle.flow_machine.specs.Values.{BodyValue}
use Rattle.std.proofs.Common.{true, false}
use Rattle.flow_model.specs.Plans.{receives_at, sends_at}
use Rattle.flow_machine.proofs.WireLemmas.{row-within, row-read}
use Rattle.std.proofs.lemmas.List.{length-map}
use Rattle.flow_model.proofs.Lists.{map-found}
use Rattle.flow_model.proofs.Lookups.{map-there}
use Rattle.flow_machine.proofs.Lists.{element-there, last-or, nothing-there, some-same}
use Rattle.flow_machine.proofs.StartLemmas.{stands-start, rest-drops, first-of, starts-same}
use Rattle.flow_machine.proofs.net.begin.bodies_of.Goals as goal

pub overflow_cast-process-end : goal.overflow_cast-process-end
overflow_cast-process-end g c = omega (arith, ap (λ (ps : List NetProcess). length ps) c.processes-2.ensures.processes, c.requires.well.wired.few_processes)

pub remove-component-requires : goal.remove-component-requires
remove-component-requires g c =
    omega (
      arith,
      c.loop-process-test.true,
      ap (λ (ps : List NetProcess). length ps) c.processes-2.ensures.processes,
      c.requires.well.one_each,
      length-map c.args.components.items g.K.Component.state_of,
      ap (λ (ps : List g.row.K.Denot). length ps) c.loop-process.invariant.rest,
      length-drop c.loop-process.process c.args.components.items,
    )

pub index-requires : goal.index-requires
index-requires g c =
    let within : c.loop-process.process < length c.args.plan.now.processes = omega (arith, c.loop-process-test.true, ap (λ (ps : List NetProcess). length ps) c.processes-2.ensures.processes) in
    let rows = row-within true c.args.plan.now.processes (receives_at c.args.plan.now) c.in_ok-receiving.receiving.items c.loop-process.process c.in_ok-receiving.ensures within in
    omega (arith, rows, c.in_ok-receiving.receiving.ok.0)

pub index-requires-in-loop-process : goal.index-requires-in-loop-process
index-requires-in-loop-process g c =
    let within : c.loop-process.process < length c.args.plan.now.processes = omega (arith, c.loop-process-test.true, ap (λ (ps : List NetProcess). length ps) c.processes-2.ensures.processes) in
    let rows = row-within false c.args.plan.now.processes (sends_at c.args.plan.now) c.in_ok-sending.sending.items c.loop-process.process c.in_ok-sending.ensures within in
    omega (arith, rows, c.in_ok-sending.sending.ok.0)

pub begin-requires-clause-receiving : goal.begin-requires-clause-receiving
begin-requires-clause-receiving g c =
    let within : c.loop-process.process < length c.args.plan.now.processes = omega (arith, c.loop-process-test.true, ap (λ (ps : List NetProcess). length ps) c.processes-2.ensures.processes) in
    row-read true c.args.plan.now.processes (receives_at c.args.plan.now) c.in_ok-receiving.receiving.items c.loop-process.process c.index.result.now c.as_slice-inputs.result.now c.in_ok-receiving.ensures within c.index.ensures c.as_slice-inputs.ensures

pub begin-requires-clause-sending : goal.begin-requires-clause-sending
begin-requires-clause-sending g c =
    let within : c.loop-process.process < length c.args.plan.now.processes = omega (arith, c.loop-process-test.true, ap (λ (ps : List NetProcess). length ps) c.processes-2.ensures.processes) in
    row-read false c.args.plan.now.processes (sends_at c.args.plan.now) c.in_ok-sending.sending.items c.loop-process.process c.index-in-loop-process.result.now c.as_slice-outputs.result.now c.in_ok-sending.ensures within c.index-in-loop-process.ensures c.as_slice-outputs.ensures

pub begin-requires-clause-in_range : goal.begin-requires-clause-in_range
begin-requires-clause-in_range g c = omega (arith, c.loop-process-test.true, ap (λ (ps : List NetProcess). length ps) c.processes-2.ensures.processes)

pub begin-requires-clause-well : goal.begin-requires-clause-well
begin-requires-clause-well g c = λ x there small.
    let plan = c.args.plan.now in
    let p : ℕ = c.loop-process.process in
    let within : p < length c.args.components.items = omega (arith, c.loop-process-test.true, ap (λ (ps : List NetProcess). length ps) c.processes-2.ensures.processes, c.requires.well.one_each, length-map c.args.components.items g.K.Component.state_of) in
    let component = element-there c.args.components.items p within in
    let same : c.remove-component.result ≡ component.0 = first-of c.args.components.items c.loop-process.components.items p c.remove-component.result component.0 c.loop-process.invariant.rest component.1 c.remove-component.ensures.value in
    stands-start g.K.Component.rules plan (map g.K.Component.state_of c.args.components.items) p x (g.K.Component.state_of c.remove-component.result) c.requires.well there
    (map-there g.K.Component.state_of c.args.components.items p c.remove-component.result (component.1 ∙ ap (λ (z : g.row.K.Denot). Some z) (sym same))) small

pub loop-process-init : goal.loop-process-init
loop-process-init g c = record {
  rest = refl;
  count = ap (λ (bs : List (BodyValue g.row.K.Denot)). length bs) c.in_ok-bodies.ensures.items;
  each = λ p q component b is at here. absurd (nothing-there p b (sym (ap (λ (bs : List (BodyValue g.row.K.Denot)). slice_get bs p) c.in_ok-bodies.ensures.items) ∙ here));
}

pub loop-process-preserved : goal.loop-process-preserved
loop-process-preserved g c = record {
  rest = c.remove-component.ensures.items ∙ rest-drops c.args.components.items c.loop-process.components.items c.loop-process.process c.loop-process.invariant.rest;
  count = omega (arith, ap (λ (bs : List (BodyValue g.row.K.Denot)). length bs) c.in_default-push.ensures.items, length-append c.loop-process.bodies.items (c.in-Ok.body ∷ []), c.loop-process.invariant.count);
  each = λ p q component b is at here. (
      elim (last-or c.loop-process.bodies.items c.in-Ok.body p b (sym (ap (λ (bs : List (BodyValue g.row.K.Denot)). slice_get bs p) c.in_default-push.ensures.items) ∙ here)) [
        | inl old ↦ c.loop-process.invariant.each p q component b is at old
        | inr new ↦ (
            let place : c.loop-process.process ≡ p = sym c.loop-process.invariant.count ∙ sym new.0 in
            let within : c.loop-process.process < length c.args.plan.now.processes = omega (arith, c.loop-process-test.true, ap (λ (ps : List NetProcess). length ps) c.processes-2.ensures.processes) in
            let x = element-there c.args.plan.now.processes c.loop-process.process within in
            let spec_there : Some x.0 ≡ Some q = sym x.1 ∙ ap (λ (n : ℕ). slice_get c.args.plan.now.processes n) place ∙ is in
            let spec : x.0 ≡ q = some-same x.0 q spec_there in
            let S = g.K.Component.state_of in
            let found = map-found S c.args.components.items c.loop-process.process component (ap (λ (n : ℕ). slice_get (map S c.args.components.items) n) place ∙ at) in
            let first : c.remove-component.result ≡ found.0 = first-of c.args.components.items c.loop-process.components.items c.loop-process.process c.remove-component.result found.0 c.loop-process.invariant.rest found.1 c.remove-component.ensures.value in
            let same : S c.remove-component.result ≡ component = ap S first ∙ found.2 in
            starts-same c.args.plan.now c.loop-process.process p x.0 q (S c.remove-component.result) component c.in-Ok.body b place spec same new.1 (c.in-Ok.ensures x.0 x.1))
      ]);
}

pub returns : goal.returns
returns g c = record {
  count = omega (arith, c.loop-process.invariant.count, c.loop-process-test.false, c.loop-process.auto.process-end, ap (λ (ps : List NetProcess). length ps) c.processes-2.ensures.processes);
  each = c.loop-process.invariant.each;
}
