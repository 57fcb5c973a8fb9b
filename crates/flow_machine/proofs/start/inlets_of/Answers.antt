use Rattle.std.proofs.Common.{◌∙◌, ◌++◌, [], ◌∷◌, sym, ap, map}
use Rattle.std.proofs.lemmas.List.{map-append}
use Rattle.flow_machine.specs.Inlets.{input_shown}
use Rattle.flow_machine.proofs.WireLemmas.{inputs-step}
use Rattle.flow_machine.proofs.start.inlets_of.Goals as goal

pub loop-input-preserved : goal.loop-input-preserved
loop-input-preserved c =
    ap (map input_shown) c.in_ok-push.ensures.items ∙ map-append input_shown c.loop-input.inlets.items (c.in_ok-inlet_at.field-0 ∷ []) ∙ (λ i. c.loop-input.invariant i ++ c.in_ok-inlet_at.ensures i ∷ [])
    ∙ sym (inputs-step c.args.process.now.initials c.args.receiving.now c.loop-input.input _ c.loop-input-test.true)
