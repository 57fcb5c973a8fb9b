use Rattle.std.proofs.Common.{Some, None, arith}
use Rattle.flow_runner.proofs.Followed.{pop-none, pop-on}
use Rattle.flow_runner.proofs.watch.Watch.take.Goals as goal

pub loop-step-init : goal.loop-step-init
loop-step-init g c = (c.requires.passes, omega (arith, c.behind-other.ensures, c.len-workers.ensures, c.requires.watches.1), pop-none c.args.lines.now.posts.items c.args.passes.now.items c.requires.passes)

pub returns-in-Some-clause-popped : goal.returns-in-Some-clause-popped
returns-in-Some-clause-popped g c = pop-on c.args.lines.now.posts.items c.args.passes.now.items c.loop-step.passes.items c.take_at.new.passes.items (Some c.in-Some.process) c.loop-step.invariant.2 c.in-Some.ensures.popped

pub loop-step-preserved : goal.loop-step-preserved
loop-step-preserved g c = (
  c.in_default.ensures.passes,
  omega (arith, c.behind-other-in-loop-step.ensures, c.len-workers.ensures, c.requires.watches.1),
  pop-on c.args.lines.now.posts.items c.args.passes.now.items c.loop-step.passes.items c.take_at.new.passes.items None c.loop-step.invariant.2 c.in_default.ensures.popped,
)
