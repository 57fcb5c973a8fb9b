use Rattle.std.proofs.Common.{◌∙◌, sym}
use Rattle.flow_plan.specs.Network.{input_port}
use Rattle.flow_drawing.proofs.PortNames.{is-input, named, no-input}
use Rattle.flow_drawing.proofs.ports.input_text.Goals as goal

pub input_name-requires : goal.input_name-requires
input_name-requires c = is-input c.args.plan.now c.processes-processes.result.now c.args.process c.args.input c.processes-processes.ensures.processes (sym c.has_input.ensures ∙ c.if-has_input.true)

pub returns-in_ok-name : goal.returns-in_ok-name
returns-in_ok-name c = c.of.ensures ∙ named (input_port c.args.plan.now c.args.process c.args.input) _ c.in_ok-name.ensures

pub returns-else-has_input : goal.returns-else-has_input
returns-else-has_input c = c.new.ensures ∙ no-input c.args.plan.now c.processes-processes.result.now c.args.process c.args.input c.processes-processes.ensures.valid c.processes-processes.ensures.processes (sym c.has_input.ensures ∙ c.if-has_input.false)
