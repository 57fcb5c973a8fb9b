use Rattle.std.proofs.Common.{◌≡◌, ◌∙◌, ◌<◌, ℕ, true, length, ap, arith, sym}
use Rattle.std.specs.Prelude.{is_some}
use Rattle.flow_offer.specs.Processes.{own_place}
use Rattle.flow_draw.proofs.Plain.{no-own, one-own}
use Rattle.flow_draw.proofs.scene.has_own.Goals as goal

pub returns-then-is_some-clause-some : goal.returns-then-is_some-clause-some
returns-then-is_some-clause-some c = λ same.
    let n : ℕ = c.loop-process.process in
    let below : n < length c.args.plan.now.processes = grind (arith, c.loop-process-test.true, c.loop-process.auto.process-end, c.processes.ensures.processes) in
    let here : is_some (own_place c.args.own.now c.args.plan.now n) ≡ true = sym (ap is_some c.own_kind.ensures.place) ∙ sym c.is_some.ensures ∙ c.if-is_some.true in
    one-own c.args.own.now c.args.plan.now n below here

pub returns-clause-none : goal.returns-clause-none
returns-clause-none c = λ same.
    no-own c.args.own.now c.args.plan.now (λ p below. c.loop-process.invariant p (grind (arith, below, c.loop-process-test.false, c.processes.ensures.processes)))
