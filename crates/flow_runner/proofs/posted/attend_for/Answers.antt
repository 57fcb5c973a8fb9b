use Rattle.std.proofs.Common.{◌∙◌, arith, refl}
use Rattle.flow_runner.proofs.Followed.{all-same, all-then}
use Rattle.flow_runner.proofs.posted.attend_for.Goals as goal

pub loop-init : goal.loop-init
loop-init g c = let p = c.requires.posted in (c.requires.idle, p, refl, all-same c.args.lines.now.posts.items c.args.server.now p.0 p.1.0, omega (arith, c.among-stint.ensures))

pub returns-then-tend_next-clause-follows : goal.returns-then-tend_next-clause-follows
returns-then-tend_next-clause-follows g c = all-then c.args.lines.now.posts.items c.args.server.now c.loop.server c.tend_next.new.server c.loop.invariant.3 c.tend_next.ensures.follows

pub loop-preserved : goal.loop-preserved
loop-preserved g c = let i = c.loop.invariant in let e = c.tend_next.ensures in (e.idle, e.posted, e.share ∙ i.2, all-then c.args.lines.now.posts.items c.args.server.now c.loop.server c.tend_next.new.server i.3 e.follows, omega (arith, e.spends, i.4))
