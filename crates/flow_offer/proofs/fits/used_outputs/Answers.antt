use Rattle.std.proofs.Common.{◌≡◌, ◌∙◌, ◌<◌, true, false, length, sym, ap, arith}
use Rattle.flow_plan.specs.declared.plan.Process.{Process}
use Rattle.flow_catalogue.specs.Processes.{is_connected}
use Rattle.flow_offer.specs.Fits.{used_outputs}
use Rattle.flow_offer.proofs.Fitting.{used-yes, used-no, of-read}
use Rattle.flow_offer.proofs.fits.used_outputs.Goals as goal
use Rattle.flow_offer.proofs.fits.used_outputs.Goals.{then-is_connected+in_ok-push, else-is_connected}

pub loop-output-preserved : goal.loop-output-preserved
loop-output-preserved c =
    elim c.if-is_connected.branch [
      | then-is_connected+in_ok-push w ↦
          let sends : is_connected c.args.plan.now c.args.process c.loop-output.output ≡ true = sym c.is_connected.ensures ∙ w.if-is_connected.true in
          used-yes c.args.plan.now c.args.process c.loop-output.output c.loop-output.used.items c.if-is_connected.used.items sends c.loop-output.invariant
          (ap (λ v. v.items) w.used-is ∙ w.in_ok-push.ensures.items)
      | else-is_connected w ↦
          let quiet : is_connected c.args.plan.now c.args.process c.loop-output.output ≡ false = sym c.is_connected.ensures ∙ w.if-is_connected.false in
          ap (λ v. v.items) w.used-is ∙ used-no c.args.plan.now c.args.process c.loop-output.output c.loop-output.used.items quiet c.loop-output.invariant
    ]

pub returns : goal.returns
returns c =
    let all : c.loop-output.output ≡ c.index-processes-process.result.outputs = omega (arith, ap (λ (x : Process). x.outputs) c.index-processes-process.is) in
    let within : c.args.process < length c.processes.result.now = omega (arith, ap length c.processes.ensures.processes) in
    of-read c.args.plan.now c.args.process c.processes.result.now c.index-processes-process.result c.of.result c.processes.ensures.processes c.index-processes-process.is within
    (c.of.ensures ∙ c.loop-output.invariant ∙ ap (used_outputs c.args.plan.now c.args.process) all)
