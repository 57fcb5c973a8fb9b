use Rattle.std.proofs.Common.{sym, ◌∙◌, subst}
use Rattle.flow_cycle.specs.Nets.{IsCycleOf}
use Rattle.flow_cycle.proofs.Nets.{finds-cycle, unstuck-none, unblocked-none, stuck-walk, if-ok}
use Rattle.flow_cycle.proofs.find.cycle.Goals as goal

pub returns-then-not-is_stuck-clause-exact : goal.returns-then-not-is_stuck-clause-exact
returns-then-not-is_stuck-clause-exact g c = λ s reached.
    subst (IsCycleOf c.args.plan.now s) (unstuck-none c.args.plan.now c.args.net.now (sym c.is_stuck.ensures ∙ c.if-not-is_stuck.true)) (
    finds-cycle g.K.Component.rules g.met.K.Component.lawful c.args.plan.now c.args.net.now s reached
    )

pub returns-in-Some-clause-exact : goal.returns-in-Some-clause-exact
returns-in-Some-clause-exact g c =
    if-ok c.walk.result _ _ (λ found is s reached.
    subst (IsCycleOf c.args.plan.now s) (stuck-walk c.args.plan.now c.args.net.now c.in-Some.first (sym c.is_stuck.ensures ∙ c.if-not-is_stuck.false) (sym c.lowest_blocked.ensures ∙ c.in-Some.is) ∙ sym is) (
    finds-cycle g.K.Component.rules g.met.K.Component.lawful c.args.plan.now c.args.net.now s reached
    )) c.walk.ensures

pub returns-in-None-clause-exact : goal.returns-in-None-clause-exact
returns-in-None-clause-exact g c = λ s reached.
    subst (IsCycleOf c.args.plan.now s) (unblocked-none c.args.plan.now c.args.net.now (sym c.is_stuck.ensures ∙ c.if-not-is_stuck.false) (sym c.lowest_blocked.ensures ∙ c.in-None.is)) (
    finds-cycle g.K.Component.rules g.met.K.Component.lawful c.args.plan.now c.args.net.now s reached
    )
