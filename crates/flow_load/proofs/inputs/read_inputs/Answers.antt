use Rattle.std.proofs.Common.{◌≡◌, ◌+◌, ◌∷◌, ◌++◌, ◌∙◌, [], List, ℕ, ap, subst, sym, arith}
use Rattle.std.proofs.lemmas.Grind.{common_steps}
use Rattle.flow_load.specs.Components.{contents_of}
use Rattle.flow_load.proofs.Parting.{SoFar, nothing-so-far, more-so-far, stop-so-far, contents-pushed}
use Rattle.flow_load.proofs.inputs.read_inputs.Goals as goal

pub loop-process-init : goal.loop-process-init
loop-process-init g c =
    let o = g.F.Edge.outside c.args.shelf.now in
    subst (λ (l : List (List ℕ)). SoFar o o c.args.plan.now 0 l) (sym (ap contents_of c.new-given.ensures.items)) (nothing-so-far o c.args.plan.now)

pub returns-in-Err : goal.returns-in-Err
returns-in-Err g c =
    stop-so-far (g.F.Edge.outside c.args.shelf.now) (g.F.Edge.outside c.loop-process.shelf) (g.F.Edge.outside c.read_input.new.shelf) c.args.plan.now c.loop-process.process
    (contents_of c.loop-process.given.items) c.in-Err.stop c.loop-process.invariant c.in-Err.ensures

pub loop-process-preserved : goal.loop-process-preserved
loop-process-preserved g c =
    let o = g.F.Edge.outside c.args.shelf.now in
    let n = g.F.Edge.outside c.read_input.new.shelf in
    let more = more-so-far o (g.F.Edge.outside c.loop-process.shelf) n c.args.plan.now c.loop-process.process (contents_of c.loop-process.given.items) c.in-Ok.bytes c.loop-process.invariant c.in-Ok.ensures in
    let pushed : c.push.new.self.items ≡ c.loop-process.given.items ++ c.in-Ok.bytes ∷ [] = grind (arith, common_steps) in
    subst (λ (l : List (List ℕ)). SoFar o n c.args.plan.now (c.loop-process.process + 1) l) (sym (ap contents_of pushed ∙ contents-pushed c.loop-process.given.items c.in-Ok.bytes)) more
