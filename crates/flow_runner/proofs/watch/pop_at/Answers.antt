use Rattle.std.proofs.Common.{◌≡◌, ◌<◌, ◌∙◌, rules, get_or, length, arith}
use Rattle.flow_runner.specs.declared.line.LinePass.{LinePass}
use Rattle.flow_runner.specs.declared.lines.Post.{Post}
use Rattle.flow_runner.specs.Lines.{IsPassAt}
use Rattle.flow_runner.proofs.Followed.{pop-tells}
use Rattle.flow_runner.proofs.Posts.{any-default, pass-set}
use Rattle.flow_runner.proofs.watch.pop_at.Goals as goal

pub returns-clause-passes : goal.returns-clause-passes
returns-clause-passes g c =
    let posts = c.args.lines.now.posts.items in
    let here : (d : Post) → IsPassAt (get_or posts c.args.number d).line c.pop.new.pass = λ d. search rules in
    pass-set posts c.args.passes.now.items c.args.number c.pop.new.pass c.requires.passes here

pub returns-clause-popped : goal.returns-clause-popped
returns-clause-popped g c =
    let posts = c.args.lines.now.posts.items in
    let ps = c.args.passes.now.items in
    let n = c.args.number in
    let old = c.index_mut.result.now in
    let within : n < length ps = omega (arith, c.requires.number, c.requires.passes.count) in
    let here : (d : Post) → IsPassAt (get_or posts n d).line c.pop.new.pass = λ d. search rules in
    let same : (e : LinePass) → old ≡ get_or ps n e = λ e. c.index_mut.ensures.value ∙ any-default ps n old e within in
    pop-tells posts _ _ _ ps n old c.pop.new.pass c.pop.result c.requires.passes c.requires.number here c.pop.ensures.pass.1 same c.pop.ensures.popped
