use Rattle.std.proofs.Common.{[], sym, subst}
use Rattle.std.specs.List.{cons_option}
use Rattle.flow_parse.specs.declared.value.Statement.{Statement}
use Rattle.flow_flat.specs.Subnets.{statement_meant}
use Rattle.flow_flat.specs.Told.{AfterMeant}
use Rattle.flow_expand.specs.Outcomes.{Leaves}
use Rattle.flow_expand.proofs.statements.put_statement.Goals as goal

pub returns-in-Connect : goal.returns-in-Connect
returns-in-Connect c = subst (λ (s : Statement). Leaves c.put_connect.result c.put_connect.new.builder (λ outcome. AfterMeant c.args.builder.now (cons_option (statement_meant c.args.text.now c.args.prefix.now c.args.part.now s) []) outcome)) (sym c.in-Connect.is) c.put_connect.ensures

pub returns-in-Initial : goal.returns-in-Initial
returns-in-Initial c = subst (λ (s : Statement). Leaves c.put_initial.result c.put_initial.new.builder (λ outcome. AfterMeant c.args.builder.now (cons_option (statement_meant c.args.text.now c.args.prefix.now c.args.part.now s) []) outcome)) (sym c.in-Initial.is) c.put_initial.ensures
