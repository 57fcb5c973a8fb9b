use Rattle.flow_parse.proofs.Printing.{one_more}
use Rattle.flow_parse.specs.Canonical.{subnet_lines}
use Rattle.flow_parse.proofs.printed.put_subnets.Goals as goal

pub subnets-preserved : goal.subnets-preserved
subnets-preserved c = one_more subnet_lines c.args.subnets.now c.subnets.subnet-index c.subnet-item.result c.args.out.now.items c.subnets.out.items c.put_subnet.new.out.items c.subnets-test.true c.subnet-item.is c.subnets.invariant c.in_ok-put_subnet.ensures
