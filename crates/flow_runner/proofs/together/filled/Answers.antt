use Rattle.std.proofs.Common.{All, Global, List, Vec, map, sym, subst}
use Rattle.flow_floor.proofs.Crews.{all-push}
use Rattle.flow_floor.proofs.Lists.{All-front}
use Rattle.flow_runner.specs.declared.line.LinePass.{LinePass}
use Rattle.flow_runner.specs.Posts.{passes_in, posts_of, ArePassesAt, PushesEach}
use Rattle.flow_runner.proofs.Filled.{each-of-rows}
use Rattle.flow_runner.proofs.together.filled.Goals as goal

pub returns-clause-rows : goal.returns-clause-rows
returns-clause-rows g c =
    let posts = posts_of c.args.lines.now in
    let were = subst (All (λ row. ArePassesAt posts row.items)) c.in-Some.ensures.items c.requires.rows in
    subst (All (λ row. ArePassesAt posts row.items)) (sym c.push_reserved.ensures.items)
    (all-push (λ row. ArePassesAt posts row.items) c.pop.new.self.items c.fill.new.passes (All-front (λ row. ArePassesAt posts row.items) c.pop.new.self.items c.in-Some.last were) c.fill.ensures.passes)

pub returns-clause-pushed : goal.returns-clause-pushed
returns-clause-pushed g c =
    let row : Vec LinePass Global → List LinePass = λ r. r.items in
    subst (λ (rows : List (Vec LinePass Global) × List (Vec LinePass Global)). PushesEach c.args.processes (passes_in (map row rows.0)) (passes_in (map row rows.1))) (λ i. (sym c.in-Some.ensures.items i, sym c.push_reserved.ensures.items i))
    (each-of-rows row c.pop.new.self.items c.in-Some.last c.fill.new.passes c.args.processes c.fill.ensures.pushed)
