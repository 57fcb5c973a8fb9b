use Rattle.std.proofs.Common.{◌∙◌, sym}
use Rattle.clap.specs.Matches.{found_of}
use Rattle.clap.proofs.WalkLemmas.{first_value-rows}
use Rattle.flow_words.specs.declared.argument.Shape.TheVariants.{Name, Valued}
use Rattle.flow_words.proofs.Getters.{value-as}
use Rattle.flow_words.proofs.words.value_of.Goals as goal

pub returns-in-Name : goal.returns-in-Name
returns-in-Name c =
    let found = found_of c.args.matches.now in
    c.get_str.ensures ∙ first_value-rows found c.name.result.now ∙ value-as found c.args.argument Name c.name.result.now (sym c.shape.ensures ∙ c.in-Name.is) c.name.ensures

pub returns-in-Valued : goal.returns-in-Valued
returns-in-Valued c =
    let found = found_of c.args.matches.now in
    c.get_str-in-Valued.ensures ∙ first_value-rows found c.name-in-Valued.result.now ∙ value-as found c.args.argument Valued c.name-in-Valued.result.now (sym c.shape.ensures ∙ c.in-Valued.is) c.name-in-Valued.ensures
