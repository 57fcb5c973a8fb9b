use Rattle.std.proofs.Common.{[], ◌∷◌}
use Rattle.flow_pattern.specs.Pattern.{group_names}
use Rattle.flow_pattern.specs.Template.{IsTemplate, whole_match}
use Rattle.flow_pattern.specs.declared.template.Part.TheVariants.{Group}
use Rattle.flow_pattern.proofs.Spelling.{whole_spelled}
use Rattle.flow_pattern.proofs.filler.Filler.of_whole.Goals as goal

pub unreachable-requires : goal.unreachable-requires
unreachable-requires c =
    let template : IsTemplate c.args.pattern.now whole_match = (Group 0 ∷ [], whole_spelled (group_names c.args.pattern.now) c.in_ok-read.ensures.numbered) in
    (rw c.in-Err.is at c.in_ok-read.ensures.refused) template
