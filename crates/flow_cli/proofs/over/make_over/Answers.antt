use Rattle.flow_cli.proofs.Overs.{make-ends}
use Rattle.flow_cli.proofs.over.make_over.Goals as goal

pub returns : goal.returns
returns g c = make-ends c.args.plan c.args.number c.args.worked c.in_ok-ran.ran c.said_of_make.result c.in_ok-ran.ensures.plan c.in_ok-ran.ensures.leaves c.said_of_make.ensures
