use Rattle.std.proofs.Common.{◌≡◌, ◌<◌, ◌∙◌, length, get_or, is_some, true, ap, ap₂, sym, arith}
use Rattle.clap.specs.Words.{found_of, rows_of}
use Rattle.flow_words.specs.declared.argument.Argument.{Argument}
use Rattle.flow_words.specs.declared.argument.Argument.TheVariants.{NetFile}
use Rattle.flow_words.specs.Arguments.{arguments}
use Rattle.flow_words.specs.Forms.{admits, place_of}
use Rattle.flow_words.specs.Words.{value_in}
use Rattle.flow_words.proofs.Tables.{all_more, some_map}
use Rattle.flow_words.proofs.words.fits.Goals as goal

pub loop-argument-preserved : goal.loop-argument-preserved
loop-argument-preserved c =
    let values = value_in (rows_of (found_of c.args.matches.now)) in
    let i = c.loop-argument.argument-index in
    let a = get_or arguments i NetFile in
    let within : i < length arguments = omega arith in
    let given : is_some (values a) ≡ c.is_some-given.result = sym (c.is_some-given.ensures ∙ sym (some_map (λ s. s.now) c.value_of.result) ∙ ap is_some c.value_of.ensures) in
    let passes : admits (place_of c.args.form a) (is_some (values a)) ≡ true = ap₂ admits (sym c.place_of.ensures) given ∙ sym c.admits.ensures ∙ c.if-not-admits.false in
    c.loop-argument.invariant ∙ all_more (λ (x : Argument). admits (place_of c.args.form x) (is_some (values x))) arguments i NetFile within passes
