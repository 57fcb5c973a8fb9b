use Rattle.flow_pattern.specs.Pattern.{expression}
use Rattle.regex_meta.specs.Programs.{pattern_of}
use Rattle.flow_pattern.proofs.Needed.{needed_alike}
use Rattle.flow_pattern.proofs.finder.means_for.Goals as goal

pub returns-clause-needed : goal.returns-clause-needed
returns-clause-needed c =
    needed_alike (pattern_of c.in_ok-program.program) (expression c.args.source.now) c.in_ok-program.ensures c.in_ok-needles.needles c.in_ok-needles.ensures
