use Rattle.std.proofs.Common.{◌≡◌, ◌++◌, take}
use Rattle.std.specs.List.{flat_map}
use Rattle.flow_parse.specs.Canonical.{statement_line}
use Rattle.flow_parse.proofs.printed.put_statements.Given as goal

abbrev pub invariant-statements : goal.invariant-statements
invariant-statements l = l.out.items ≡ l.fn.out.items ++ flat_map statement_line (take l.statement-index l.statements)
