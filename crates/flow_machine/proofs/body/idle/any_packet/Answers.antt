use Rattle.std.proofs.Common.{◌∙◌, sym, ap, map, drop, Bool, ◌+◌}
use Rattle.std.specs.Prelude.{◌||◌}
use Rattle.std.specs.List.{list_any}
use Rattle.flow_model.specs.Events.{has_packet}
use Rattle.flow_model.specs.Stands.{look_shown}
use Rattle.flow_machine.specs.Inlets.{input_shown}
use Rattle.flow_machine.proofs.InletLemmas.{any-step, any-over}
use Rattle.flow_machine.proofs.body.idle.any_packet.Goals as goal

pub loop-inlet-preserved : goal.loop-inlet-preserved
loop-inlet-preserved c =
    let step = any-step (has_packet (map look_shown c.args.channels.now)) input_shown c.args.inlets.now c.loop-inlet.inlet-index c.inlet-item.result c.loop-inlet-test.true c.inlet-item.is in
    let t = sym c.has_packet.ensures ∙ c.if-has_packet.false in
    sym (step ∙ ap (λ (b : Bool). b || list_any (has_packet (map look_shown c.args.channels.now)) (map input_shown (drop (c.loop-inlet.inlet-index + 1) c.args.inlets.now))) t) ∙ c.loop-inlet.invariant

pub returns-then-has_packet : goal.returns-then-has_packet
returns-then-has_packet c =
    let step = any-step (has_packet (map look_shown c.args.channels.now)) input_shown c.args.inlets.now c.loop-inlet.inlet-index c.inlet-item.result c.loop-inlet-test.true c.inlet-item.is in
    let t = sym c.has_packet.ensures ∙ c.if-has_packet.true in
    sym (step ∙ ap (λ (b : Bool). b || list_any (has_packet (map look_shown c.args.channels.now)) (map input_shown (drop (c.loop-inlet.inlet-index + 1) c.args.inlets.now))) t) ∙ c.loop-inlet.invariant

pub returns : goal.returns
returns c = sym (any-over (has_packet (map look_shown c.args.channels.now)) input_shown c.args.inlets.now c.loop-inlet.inlet-index c.loop-inlet-test.false) ∙ c.loop-inlet.invariant
