use Rattle.std.proofs.Common.{[], refl}
use Rattle.flow_packet.specs.Held.{Held}
use Rattle.flow_component.specs.declared.Answer.TheVariants as answers
use Rattle.flow_witness.proofs.a_part_without_outcomes_is_no_component.Goals as goal

-- no packet in the hands of process 0
abbrev empty : Held
empty = record { maker = 0; made = 0; packets = [] }

pub returns : goal.returns
returns c = λ claims has_outcome starts. (has_outcome tt empty answers.Start (starts empty refl)).1
