use Rattle.std.proofs.Common.{◌<◌, ◌∙◌, length, sym, ap, arith}
use Rattle.std.proofs.lemmas.Bool.{false≢true}
use Rattle.flow_offer.proofs.Parts.{finds-none, all-find}
use Rattle.flow_offer.proofs.shares.no_part.Goals as goal

pub returns-then-not-finds_part : goal.returns-then-not-finds_part
returns-then-not-finds_part c =
    let within : c.loop-process.process < length c.args.plan.now.processes = omega (arith, ap length c.processes-process-end.ensures.processes) in
    record {
      none = finds-none c.args.own.now c.args.counts.now c.args.plan.now c.loop-process.process within (λ finds. false≢true (sym c.if-not-finds_part.true ∙ c.finds_part.ensures.1 finds));
      before = c.loop-process.invariant;
    }

pub returns : goal.returns
returns c = all-find c.args.own.now c.args.counts.now c.args.plan.now c.loop-process.process (omega (arith, ap length c.processes-process-end.ensures.processes)) c.loop-process.invariant
