use Rattle.std.proofs.Common.{◌≡◌, [], take, drop}
use Rattle.std.specs.List.{list_any}
use Rattle.flow_parse.specs.declared.value.Statement.{Statement}
use Rattle.flow_parse.specs.Places.{place_in}
use Rattle.flow_flat.specs.Texts.{given_again, is_given_by}
use Rattle.flow_expand.specs.Given.{is_among}
use Rattle.flow_expand.proofs.given.second_given.Given as goal

abbrev pub invariant-statements : goal.invariant-statements
invariant-statements l = (given_again [] l.statements ≡ given_again (take l.statement-index l.statements) (drop l.statement-index l.statements))
    × ((s : Statement) → is_among (place_in l.given.inputs.places) (place_in l.given.outputs.places) s ≡ list_any (is_given_by s) (take l.statement-index l.statements))
