use Rattle.std.proofs.Common.{[], add-one}
use Rattle.flow_machine.specs.Joins.{processes_of}
use Rattle.flow_report.specs.Of.{process_told, hands_told}
use Rattle.flow_report.proofs.Tellings.{told-step, process-there}
use Rattle.flow_report.proofs.rows.all_processes.Goals as goal

pub loop-process-preserved : goal.loop-process-preserved
loop-process-preserved g c = record {
  lines = rw add-one (told-step (process_told c.args.plan.now) c.args.net.now.bodies c.loop-process.process c.body.result.now []
      c.loop-process.lines c.add_process.new.lines c.body.ensures c.loop-process.invariant.lines c.in_ok-add_process.ensures.lines);
  left = rw add-one (told-step hands_told (processes_of c.args.net.now.bodies) c.loop-process.process c.body.result.now.process c.args.left.now
      c.loop-process.left c.add_process.new.left (process-there c.args.net.now.bodies c.loop-process.process c.body.result.now c.body.ensures)
      c.loop-process.invariant.left c.in_ok-add_process.ensures.left);
}
