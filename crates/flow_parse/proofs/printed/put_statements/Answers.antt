use Rattle.flow_parse.proofs.Printing.{one_more}
use Rattle.flow_parse.specs.Canonical.{statement_line}
use Rattle.flow_parse.proofs.printed.put_statements.Goals as goal

pub statements-preserved : goal.statements-preserved
statements-preserved c = one_more statement_line c.args.statements.now c.statements.statement-index c.statement-item.result c.args.out.now.items c.statements.out.items c.put_statement.new.out.items c.statements-test.true c.statement-item.is c.statements.invariant c.in_ok-put_statement.ensures
