use Rattle.std.proofs.Common.{◌∙◌, sym}
use Rattle.flow_plan.specs.Network.{output_port}
use Rattle.flow_drawing.proofs.PortNames.{is-output, named, no-output}
use Rattle.flow_drawing.proofs.ports.output_text.Goals as goal

pub output_name-requires : goal.output_name-requires
output_name-requires c = is-output c.args.plan.now c.processes-processes.result.now c.args.process c.args.output c.processes-processes.ensures.processes (sym c.has_output.ensures ∙ c.if-has_output.true)

pub returns-in_ok-name : goal.returns-in_ok-name
returns-in_ok-name c = c.of.ensures ∙ named (output_port c.args.plan.now c.args.process c.args.output) _ c.in_ok-name.ensures

pub returns-else-has_output : goal.returns-else-has_output
returns-else-has_output c = c.new.ensures ∙ no-output c.args.plan.now c.processes-processes.result.now c.args.process c.args.output c.processes-processes.ensures.valid c.processes-processes.ensures.processes (sym c.has_output.ensures ∙ c.if-has_output.false)
