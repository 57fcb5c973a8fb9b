use Rattle.std.proofs.Common.{◌≡◌, ◌+◌, ◌∷◌, ◌++◌, ◌∙◌, [], List, ℕ, length, ap, subst, sym, arith}
use Rattle.std.proofs.lemmas.Grind.{common_steps}
use Rattle.flow_load.specs.Components.{contents_of}
use Rattle.flow_load.proofs.Giving.{GivenSoFar, none-given, more-given, all-standard}
use Rattle.flow_load.proofs.Parting.{contents-pushed}
use Rattle.flow_load.proofs.inputs.give_inputs.Goals as goal

pub loop-process-init : goal.loop-process-init
loop-process-init c = subst (λ (l : List (List ℕ)). GivenSoFar c.args.plan.now c.args.input.now 0 l) (sym (ap contents_of c.new-given.ensures.items)) (none-given c.args.plan.now c.args.input.now)

pub loop-process-preserved : goal.loop-process-preserved
loop-process-preserved c =
    let one = c.in_ok-give_input in
    let more = more-given c.args.plan.now c.args.input.now c.loop-process.process (contents_of c.loop-process.given.items) one.field-0.items c.loop-process.invariant one.ensures in
    let pushed : c.push.new.self.items ≡ c.loop-process.given.items ++ one.field-0 ∷ [] = grind (arith, common_steps) in
    subst (λ (l : List (List ℕ)). GivenSoFar c.args.plan.now c.args.input.now (c.loop-process.process + 1) l) (sym (ap contents_of pushed ∙ contents-pushed c.loop-process.given.items one.field-0)) more

pub give_input-requires : goal.give_input-requires
give_input-requires c =
    all-standard c.args.plan.now c.loop-process.process c.each_process_is_standard_or_own.ensures c.requires (omega (arith, ap length c.processes-process-end.ensures.processes))
