use Rattle.std.proofs.Common.{◌<◌, ◌∙◌, ◌++◌, ◌∷◌, [], rules, get_or, length, arith, ap}
use Rattle.flow_runner.specs.declared.lines.Post.{Post}
use Rattle.flow_runner.specs.Lines.{pushes_of, IsPassAt}
use Rattle.flow_runner.specs.Posts.{posts_of}
use Rattle.flow_runner.proofs.Filled.{each-more, each-none}
use Rattle.flow_runner.proofs.Posts.{pass-set}
use Rattle.flow_runner.proofs.together.fill.Goals as goal

pub loop-process-init : goal.loop-process-init
loop-process-init g c = (c.requires.passes, each-none c.args.passes.now.items)

pub loop-process-preserved : goal.loop-process-preserved
loop-process-preserved g c =
    let inv = c.loop-process.invariant in
    let posts = posts_of c.args.lines.now in
    let ps = c.loop-process.passes.items in
    let n = c.first_line-at.result in
    let old = c.index_mut.result.now in
    let x = c.push_surely.new.pass in
    let within : n < length ps = omega (arith, c.first_line-at.ensures, inv.0.count, c.len.ensures) in
    let stays : (d : Post) → IsPassAt (get_or posts n d).line x = λ d. search rules in
    (pass-set posts ps n x inv.0 stays, each-more c.args.passes.now.items ps c.loop-process.process n x old inv.1 within (c.push_surely.ensures.pushed ∙ ap (λ p. pushes_of p ++ c.loop-process.process ∷ []) (c.index_mut.ensures.value)))
