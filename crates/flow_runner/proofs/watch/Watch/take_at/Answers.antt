use Rattle.flow_runner.proofs.Followed.{pop-none}
use Rattle.flow_runner.proofs.watch.Watch.take_at.Goals as goal

pub returns-then-not-may_take-clause-popped : goal.returns-then-not-may_take-clause-popped
returns-then-not-may_take-clause-popped g c = pop-none c.args.lines.now.posts.items c.args.passes.now.items c.requires.passes
