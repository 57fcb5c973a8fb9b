use Rattle.flow_runner.proofs.Followed.{pop-none}
use Rattle.flow_runner.proofs.watch.Watch.find.Goals as goal

pub returns-then-not-may_help-clause-popped : goal.returns-then-not-may_help-clause-popped
returns-then-not-may_help-clause-popped g c = pop-none c.args.lines.now.posts.items c.args.passes.now.items c.requires.passes

pub returns-then-tries-2-clause-popped : goal.returns-then-tries-2-clause-popped
returns-then-tries-2-clause-popped g c = pop-none c.args.lines.now.posts.items c.args.passes.now.items c.requires.passes
