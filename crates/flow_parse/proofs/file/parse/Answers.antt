use Rattle.std.proofs.Common.{ap, map, ◌∙◌}
use Rattle.flow_parse.proofs.OneOutcome.{gives_value, gives_fault}
use Rattle.flow_parse.proofs.FileValues.{gives_valid}
use Rattle.flow_parse.proofs.file.parse.Goals as goal

pub returns-clause-value : goal.returns-clause-value
returns-clause-value c = gives_value (map (λ row. row.items) c.as_slice.result.now) c.args.bytes.now c.read_lines.result (ap (map (λ row. row.items)) c.as_slice.ensures.value ∙ c.in_ok-lines.ensures) c.read_lines.ensures

pub returns-clause-fault : goal.returns-clause-fault
returns-clause-fault c = gives_fault (map (λ row. row.items) c.as_slice.result.now) c.args.bytes.now c.read_lines.result (ap (map (λ row. row.items)) c.as_slice.ensures.value ∙ c.in_ok-lines.ensures) c.read_lines.ensures

pub returns-clause-valid : goal.returns-clause-valid
returns-clause-valid c = gives_valid (map (λ row. row.items) c.as_slice.result.now) c.args.bytes.now c.read_lines.result (ap (map (λ row. row.items)) c.as_slice.ensures.value ∙ c.in_ok-lines.ensures) c.read_lines.ensures
