use Rattle.std.proofs.Common.{◌∙◌}
use Rattle.regex_meta.specs.Programs.{pattern_of}
use Rattle.regex_extract.specs.Needles.{needles_of}
use Rattle.flow_pattern.proofs.Needed.{needed_as}
use Rattle.flow_pattern.proofs.needles.Needles.of.Goals as goal

pub returns : goal.returns
returns c =
    let contains = rw c.in-Some.is at c.in_ok-texts.ensures.contains in
    let same = rw c.in-Some-2.is at c.in_ok-sought.ensures.needles in
    needed_as (pattern_of c.args.program.now) (needles_of c.in-Some.texts) c.in_ok-sought-2.sought.value contains (c.in_ok-sought-2.ensures.ok ∙ same)
