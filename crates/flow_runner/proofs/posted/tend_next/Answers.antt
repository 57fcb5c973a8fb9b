use Rattle.std.proofs.Common.{◌∙◌, ap}
use Rattle.flow_floor.specs.Floors.{asked_of, readied_of}
use Rattle.flow_runner.proofs.Followed.{all-rested, all-tended}
use Rattle.flow_runner.proofs.posted.tend_next.Goals as goal

pub returns-then-live-eq0-clause-follows : goal.returns-then-live-eq0-clause-follows
returns-then-live-eq0-clause-follows g c = all-rested c.args.lines.now.posts.items c.args.server.now (record { worker = c.live.new.worker; passes = c.find.new.server.passes; watch = c.find.new.server.watch }) c.find.ensures.home (ap (λ v. v.asked) c.live.ensures.view ∙ ap asked_of c.find.ensures.worker) (ap (λ v. v.readied) c.live.ensures.view ∙ ap readied_of c.find.ensures.worker) c.in-None.ensures.popped c.requires.posted.1.0

pub returns-else-live-eq0-clause-follows : goal.returns-else-live-eq0-clause-follows
returns-else-live-eq0-clause-follows g c = all-rested c.args.lines.now.posts.items c.args.server.now (record { worker = c.live.new.worker; passes = c.find.new.server.passes; watch = c.rests.new.self }) (c.rests.ensures.number ∙ c.find.ensures.home) (ap (λ v. v.asked) c.live.ensures.view ∙ ap asked_of c.find.ensures.worker) (ap (λ v. v.readied) c.live.ensures.view ∙ ap readied_of c.find.ensures.worker) c.in-None.ensures.popped c.requires.posted.1.0

pub returns-then-tend_one-clause-follows : goal.returns-then-tend_one-clause-follows
returns-then-tend_one-clause-follows g c = all-tended c.args.lines.now.posts.items c.args.server.now c.find.new.server c.tend_one.new.server c.in-Some.process c.find.ensures.home c.requires.posted.1.0 c.find.ensures.worker c.in-Some.ensures.popped c.tend_one.ensures.asked c.tend_one.ensures.pushes

pub returns-else-tend_one-clause-follows : goal.returns-else-tend_one-clause-follows
returns-else-tend_one-clause-follows g c = all-tended c.args.lines.now.posts.items c.args.server.now c.find.new.server c.tend_one.new.server c.in-Some.process c.find.ensures.home c.requires.posted.1.0 c.find.ensures.worker c.in-Some.ensures.popped c.tend_one.ensures.asked c.tend_one.ensures.pushes
