use Rattle.std.proofs.Common.{◌≡◌, ◌∙◌, ap, arith, sym}
use Rattle.std.specs.Prelude.{is_some}
use Rattle.flow_offer.specs.Processes.{own_place}
use Rattle.flow_load.proofs.Counting.{one-counted, none-counted, few-counted}
use Rattle.flow_load.proofs.tapes.count_own.Goals as goal
use Rattle.flow_load.proofs.tapes.count_own.Goals.{then-is_some, else-is_some}

pub overflow_add-count : goal.overflow_add-count
overflow_add-count c = omega (arith, c.loop-process.invariant, few-counted c.args.own.now c.args.plan.now c.loop-process.process)

pub loop-process-preserved : goal.loop-process-preserved
loop-process-preserved c =
    let place : c.is_some.result ≡ is_some (own_place c.args.own.now c.args.plan.now c.loop-process.process) = c.is_some.ensures ∙ ap is_some c.own_kind.ensures.place in
    elim c.if-is_some.branch [
      | then-is_some w ↦ w.count-is ∙ one-counted c.args.own.now c.args.plan.now c.loop-process.process c.loop-process.count (sym place ∙ w.if-is_some.true) c.loop-process.invariant
      | else-is_some w ↦ w.count-is ∙ none-counted c.args.own.now c.args.plan.now c.loop-process.process c.loop-process.count (sym place ∙ w.if-is_some.false) c.loop-process.invariant
    ]
