use Rattle.std.proofs.Common.{◌∙◌, sym, ap, map, drop, Bool, ◌+◌}
use Rattle.std.specs.Prelude.{◌&&◌}
use Rattle.std.specs.List.{list_all}
use Rattle.flow_model.specs.Events.{has_ended}
use Rattle.flow_model.specs.Stands.{look_shown}
use Rattle.flow_machine.specs.Inlets.{input_shown}
use Rattle.flow_machine.proofs.InletLemmas.{all-step, all-over}
use Rattle.flow_machine.proofs.body.idle.all_ended.Goals as goal

pub loop-inlet-preserved : goal.loop-inlet-preserved
loop-inlet-preserved c =
    let step = all-step (has_ended (map look_shown c.args.channels.now)) input_shown c.args.inlets.now c.loop-inlet.inlet-index c.inlet-item.result c.loop-inlet-test.true c.inlet-item.is in
    let t = sym c.has_ended.ensures ∙ c.if-not-has_ended.false in
    sym (step ∙ ap (λ (b : Bool). b && list_all (has_ended (map look_shown c.args.channels.now)) (map input_shown (drop (c.loop-inlet.inlet-index + 1) c.args.inlets.now))) t) ∙ c.loop-inlet.invariant

pub returns-then-not-has_ended : goal.returns-then-not-has_ended
returns-then-not-has_ended c =
    let step = all-step (has_ended (map look_shown c.args.channels.now)) input_shown c.args.inlets.now c.loop-inlet.inlet-index c.inlet-item.result c.loop-inlet-test.true c.inlet-item.is in
    let t = sym c.has_ended.ensures ∙ c.if-not-has_ended.true in
    sym (step ∙ ap (λ (b : Bool). b && list_all (has_ended (map look_shown c.args.channels.now)) (map input_shown (drop (c.loop-inlet.inlet-index + 1) c.args.inlets.now))) t) ∙ c.loop-inlet.invariant

pub returns : goal.returns
returns c = sym (all-over (has_ended (map look_shown c.args.channels.now)) input_shown c.args.inlets.now c.loop-inlet.inlet-index c.loop-inlet-test.false) ∙ c.loop-inlet.invariant
