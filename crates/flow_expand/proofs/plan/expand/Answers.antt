use Rattle.std.proofs.Common.{subst}
use Rattle.flow_parse.specs.declared.value.NetText.{NetText}
use Rattle.flow_flat.specs.Texts.{TextComesTo}
use Rattle.flow_expand.specs.Outcomes.{Gives}
use Rattle.flow_expand.proofs.Saying.{only}
use Rattle.flow_expand.proofs.plan.expand.Goals as goal

pub returns-clause-exact : goal.returns-clause-exact
returns-clause-exact c = λ outcome there. only c.args.kinds.items c.args.text.now c.plan_of.result outcome (subst (λ (t : NetText). Gives c.plan_of.result (λ found. TextComesTo c.args.kinds.items t found)) c.in_ok-indexed.ensures c.plan_of.ensures.said) there
