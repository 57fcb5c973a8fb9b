use Rattle.std.proofs.Common.{◌≤◌, subst}
use Rattle.flow_own.specs.Parts.{Answers}
use Rattle.flow_own.proofs.part.BoxDynPartSendPart.resume.Goals as goal

-- the part that the box lends is the one in it
pub returns-clause-counts : goal.returns-clause-counts
returns-clause-counts g c = subst (λ o. ((g.dyn-1.0.entry o.0).1.seen o.1).answers ≤ ((g.dyn-1.0.entry _).1.seen c.resume.new.self).answers) c.deref_box_mut-1.ensures.value.1 c.resume.ensures.1.0

pub returns-clause-answers : goal.returns-clause-answers
returns-clause-answers g c = subst (λ o. Answers ((g.dyn-1.0.entry o.0).1.seen o.1) ((g.dyn-1.0.entry _).1.seen c.resume.new.self) c.resume.result c.args.desk.now c.resume.new.desk) c.deref_box_mut-1.ensures.value.1 c.resume.ensures.1.1.0
