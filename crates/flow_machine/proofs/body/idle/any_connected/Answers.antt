use Rattle.std.proofs.Common.{◌∙◌, sym, ap, map, drop, Bool, ◌+◌}
use Rattle.std.specs.Prelude.{◌||◌}
use Rattle.std.specs.List.{list_any}
use Rattle.flow_model.specs.Events.{is_connected}
use Rattle.flow_machine.specs.Inlets.{input_shown}
use Rattle.flow_machine.proofs.InletLemmas.{any-step, any-over}
use Rattle.flow_machine.proofs.body.idle.any_connected.Goals as goal

pub loop-inlet-preserved : goal.loop-inlet-preserved
loop-inlet-preserved c =
    let step = any-step (is_connected) input_shown c.args.inlets.now c.loop-inlet.inlet-index c.inlet-item.result c.loop-inlet-test.true c.inlet-item.is in
    let t = sym c.is_connected.ensures ∙ c.if-is_connected.false in
    sym (step ∙ ap (λ (b : Bool). b || list_any (is_connected) (map input_shown (drop (c.loop-inlet.inlet-index + 1) c.args.inlets.now))) t) ∙ c.loop-inlet.invariant

pub returns-then-is_connected : goal.returns-then-is_connected
returns-then-is_connected c =
    let step = any-step (is_connected) input_shown c.args.inlets.now c.loop-inlet.inlet-index c.inlet-item.result c.loop-inlet-test.true c.inlet-item.is in
    let t = sym c.is_connected.ensures ∙ c.if-is_connected.true in
    sym (step ∙ ap (λ (b : Bool). b || list_any (is_connected) (map input_shown (drop (c.loop-inlet.inlet-index + 1) c.args.inlets.now))) t) ∙ c.loop-inlet.invariant

pub returns : goal.returns
returns c = sym (any-over (is_connected) input_shown c.args.inlets.now c.loop-inlet.inlet-index c.loop-inlet-test.false) ∙ c.loop-inlet.invariant
