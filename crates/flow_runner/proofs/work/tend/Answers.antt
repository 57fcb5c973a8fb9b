use Rattle.std.proofs.Common.{ap, refl}
use Rattle.flow_runner.specs.Serving.{names_of}
use Rattle.flow_runner.proofs.Serves.{but-pushed, pushes-but, pushes-none, pushes-then, pushes-woken}
use Rattle.flow_runner.proofs.work.tend.Goals as goal

-- the turns, those whom they made ready and who are left, and then the call that let the process go
pub returns-after-matches-clause-pushes : goal.returns-after-matches-clause-pushes
returns-after-matches-clause-pushes g c =
    let line = c.args.line.now in
    let p = c.args.pass.now in
    let q = c.work-last.new.pass in
    let r = c.push_all.new.pass in
    let none = names_of c.none-unpushed.result in
    let some = names_of c.work-last.new.unpushed in
    let all = names_of c.push_all.new.unpushed in
    let told = c.push_all.ensures in
    let woke = c.push_woken.ensures in
    let turns = but-pushed line c.claim.new.worker c.work-last.new.worker p q r none some all c.work-last.ensures.pushes told.pass told.pushed told.popped told.none in
    pushes-then line c.args.worker.now c.work-last.new.worker c.let_go.new.worker p r c.push_woken.new.pass
    (pushes-then line c.args.worker.now c.claim.new.worker c.work-last.new.worker p p r
    (pushes-none line c.args.worker.now c.claim.new.worker p p (c.requires.pass, refl) (ap (λ v. v.readied) c.in-Held.ensures.claimed.3) refl refl)
    (pushes-but line c.claim.new.worker c.work-last.new.worker p r none all turns c.none-unpushed.ensures told.none))
    (pushes-woken c.args.floor.now line c.work-last.new.worker c.let_go.new.worker r c.push_woken.new.pass c.let_go.ensures.readies woke.pass woke.pushed woke.popped)
