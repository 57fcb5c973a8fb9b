use Rattle.std.proofs.Common.{[], ap, sym, subst}
use Rattle.std.specs.List.{filter_map}
use Rattle.flow_parse.specs.declared.value.NetPart.{NetPart}
use Rattle.flow_parse.specs.declared.value.NetText.{NetText}
use Rattle.flow_flat.specs.Subnets.{statement_meant}
use Rattle.flow_flat.specs.Told.{HasShortTexts, AfterMeant}
use Rattle.flow_expand.specs.Outcomes.{Leaves}
use Rattle.flow_expand.proofs.plan.put_main.Goals as goal

pub put_statements-requires : goal.put_statements-requires
put_statements-requires c = subst HasShortTexts (sym (ap (λ (t : NetText). t.main) c.value.ensures)) c.requires

pub returns : goal.returns
returns c = subst (λ (p : NetPart). Leaves c.put_statements.result c.put_statements.new.builder (λ outcome. AfterMeant c.args.builder.now (filter_map (statement_meant c.args.text.now [] p) p.statements) outcome)) (ap (λ (t : NetText). t.main) c.value.ensures) c.put_statements.ensures
