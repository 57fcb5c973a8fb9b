use Rattle.flow_expand.proofs.Telling.{GoesOn}
use Rattle.flow_flat.specs.Subnets.{statement_meant}
use Rattle.std.specs.List.{filter_map}
use Rattle.std.proofs.Common.{drop}
use Rattle.flow_expand.proofs.statements.put_statements.Given as goal

abbrev pub invariant-statements : goal.invariant-statements
invariant-statements l = GoesOn l.fn.builder (filter_map (statement_meant l.text l.prefix l.part) l.statements) l.builder (filter_map (statement_meant l.text l.prefix l.part) (drop l.statement-index l.statements))
