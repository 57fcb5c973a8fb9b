use Rattle.std.proofs.Common.{◌≡◌, ◌∙◌, ◌+◌, ◌++◌, ◌∷◌, [], length, rules, arith, ap, sym, subst, List, Some, slice_get}
use Rattle.std.proofs.lemmas.List.{length_push}
use Rattle.flow_catalogue.specs.declared.standard.Std.{Std}
use Rattle.flow_rig.specs.Networks.{HasComponent}
use Rattle.flow_rig.proofs.Fitting.{pushed, components-fit}
use Rattle.flow_rig.proofs.starting.standard_components.Goals as goal

pub loop-process-preserved : goal.loop-process-preserved
loop-process-preserved c =
    let i = c.loop-process.invariant in
    let components = c.loop-process.components.items in
    let component = c.in_ok-standard_component.field-0 in
    let items : c.push.new.self.items ≡ components ++ component ∷ [] = search rules in
    let made : HasComponent c.args.bytes.now c.args.plan.now c.loop-process.process component = search rules in
    let last = subst (λ p. HasComponent c.args.bytes.now c.args.plan.now p component) (sym i.count) made in
    record {
      count = ap length items ∙ length_push components component ∙ ap (λ n. n + 1) i.count;
      made = λ p x at. pushed (HasComponent c.args.bytes.now c.args.plan.now) components component i.made last p x (subst (λ (l : List Std). slice_get l p ≡ Some x) items at);
    }

pub returns-clause-well : goal.returns-clause-well
returns-clause-well c =
    let i = c.loop-process.invariant in
    let ends = c.processes-process-end.ensures in
    let same = ap length ends.processes in
    let plan = c.args.plan.now in
    let components = c.loop-process.components.items in
    let fit = components-fit c.args.bytes.now plan components (record { count = omega arith; each = i.made }) in
    c.a_valid_plan_is_ready.ensures.starts plan components ends.valid fit
