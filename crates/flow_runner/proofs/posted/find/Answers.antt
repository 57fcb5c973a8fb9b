use Rattle.flow_runner.proofs.Followed.{pop-on}
use Rattle.flow_runner.proofs.posted.find.Goals as goal

pub returns-in-None-clause-popped : goal.returns-in-None-clause-popped
returns-in-None-clause-popped g c = pop-on c.args.lines.now.posts.items c.args.server.now.passes.items c.pop_at.new.passes.items c.find.new.passes.items c.find.result c.in-None.ensures.popped c.find.ensures.popped
