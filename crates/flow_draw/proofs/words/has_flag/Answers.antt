use Rattle.std.proofs.Common.{◌∙◌, ap, sym, Some, None}
use Rattle.clap.specs.Matches.{found_of}
use Rattle.clap.specs.declared.parser.matches.ValueSource.TheVariants.{CommandLine, DefaultValue}
use Rattle.flow_words.proofs.Getters.{flag-as}
use Rattle.flow_draw.proofs.words.has_flag.Goals as goal

pub returns-in-Some-CommandLine : goal.returns-in-Some-CommandLine
returns-in-Some-CommandLine c = flag-as (found_of c.args.matches.now) c.args.flag.now (Some CommandLine)
    (sym (ap Some c.in-Some-CommandLine.field-0-is) ∙ c.in-Some-CommandLine.ensures)

pub returns-in-Some-DefaultValue : goal.returns-in-Some-DefaultValue
returns-in-Some-DefaultValue c = flag-as (found_of c.args.matches.now) c.args.flag.now (Some DefaultValue)
    (sym (ap Some c.in-Some-DefaultValue.field-0-is) ∙ c.in-Some-DefaultValue.ensures)

pub returns-in-None : goal.returns-in-None
returns-in-None c = flag-as (found_of c.args.matches.now) c.args.flag.now None c.in-None.ensures
