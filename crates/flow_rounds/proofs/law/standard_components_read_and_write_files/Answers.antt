use Rattle.std.proofs.Common.{ap}
use Rattle.flow_component.specs.Outcomes.{outcome_as}
use Rattle.flow_catalogue.specs.declared.standard.Std.TheVariants as components
use Rattle.flow_rounds.proofs.law.standard_components_read_and_write_files.Goals as goal

pub returns : goal.returns
returns c = record {
  reads = λ left held answer o is. ap (outcome_as components.ReadLines) is;
  writes = λ bytes held answer o is. ap (outcome_as components.WriteLines) is;
}
