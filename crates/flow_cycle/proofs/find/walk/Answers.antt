use Rattle.std.proofs.Common.{◌≡◌, ◌+◌, ◌-◌, ◌<◌, suc, sym, ap, ◌∙◌, List, length, drop, arith, Some}
use Rattle.std.specs.Prelude.{option_map}
use Rattle.flow_cycle.specs.declared.Waits.{Waits}
use Rattle.flow_cycle.specs.Waiting.{rest_from, walk}
use Rattle.flow_cycle.specs.Nets.{waits_in}
use Rattle.flow_cycle.proofs.Marks.{named-in, marked-next}
use Rattle.flow_cycle.proofs.Steps.{walk-back, walk-none, walk-on}
use Rattle.flow_cycle.proofs.find.walk.Goals as goal

pub returns-in-Some : goal.returns-in-Some
returns-in-Some g c =
    let more : 0 < length c.args.net.now.bodies + 1 - c.steps.counter = omega arith in
    let cycle : List Waits = drop c.in-Some.place c.deref.result.now in
    let back : rest_from c.steps.process c.steps.way.items ≡ Some cycle =
    ap (rest_from c.steps.process) (sym c.deref.ensures.value) ∙ c.come_back.ensures.rest ∙ ap (option_map (λ place. drop place c.deref.result.now)) c.in-Some.is in
    ap Some (c.in_ok-rest.ensures ∙ ap (drop c.in-Some.place) (c.deref-in-Some.ensures.value ∙ sym c.deref.ensures.value))
    ∙ sym (c.steps.invariant.0 ∙ walk-back (waits_in c.args.plan.now c.args.net.now) (length c.args.net.now.bodies + 1 - c.steps.counter) c.steps.way.items c.steps.process cycle more back)

pub returns-in_default-waits : goal.returns-in_default-waits
returns-in_default-waits g c =
    let none = ap (rest_from c.steps.process) (sym c.deref.ensures.value) ∙ c.come_back.ensures.rest ∙ ap (option_map (λ place. drop place c.deref.result.now)) c.in_default.is in
    sym (
    c.steps.invariant.0
    ∙ walk-none (waits_in c.args.plan.now c.args.net.now) (length c.args.net.now.bodies + 1 - c.steps.counter) c.steps.way.items c.steps.process none (sym c.waits.ensures ∙ c.in_default-waits.is)
    )

pub steps-preserved : goal.steps-preserved
steps-preserved g c =
    let one : length c.args.net.now.bodies + 1 - c.steps.counter ≡ suc (length c.args.net.now.bodies + 1 - (c.steps.counter + 1)) = omega arith in
    let none = ap (rest_from c.steps.process) (sym c.deref.ensures.value) ∙ c.come_back.ensures.rest ∙ ap (option_map (λ place. drop place c.deref.result.now)) c.in_default.is in (
      c.steps.invariant.0
          ∙ walk-on (waits_in c.args.plan.now c.args.net.now) (length c.args.net.now.bodies + 1 - c.steps.counter) (length c.args.net.now.bodies + 1 - (c.steps.counter + 1)) c.steps.way.items c.steps.process c.in-Some-waits.next one none (sym c.waits.ensures ∙ c.in-Some-waits.is)
          ∙ ap (λ (way : List Waits). walk (waits_in c.args.plan.now c.args.net.now) (length c.args.net.now.bodies + 1 - (c.steps.counter + 1)) way c.in-Some-waits.next.to) (sym c.in_ok-push.ensures.items),
      marked-next c.steps.marks.items _ c.steps.way.items _ c.steps.process c.in-Some-waits.next c.mark.ensures c.in_ok-push.ensures.items
          (named-in c.args.plan.now c.args.net.now c.steps.process c.in-Some-waits.next (sym c.waits.ensures ∙ c.in-Some-waits.is)) c.steps.invariant.1,
    )
