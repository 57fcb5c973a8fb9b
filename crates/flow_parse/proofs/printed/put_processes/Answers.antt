use Rattle.flow_parse.proofs.Printing.{one_more}
use Rattle.flow_parse.specs.Canonical.{process_line}
use Rattle.flow_parse.proofs.printed.put_processes.Goals as goal

pub processes-preserved : goal.processes-preserved
processes-preserved c = one_more process_line c.args.processes.now c.processes.process-index c.process-item.result c.args.out.now.items c.processes.out.items c.put_process.new.out.items c.processes-test.true c.process-item.is c.processes.invariant c.in_ok-put_process.ensures
