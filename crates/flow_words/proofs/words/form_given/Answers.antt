use Rattle.std.proofs.Common.{◌<◌, ◌∙◌, length, sym, arith}
use Rattle.clap.specs.Words.{found_of, rows_of}
use Rattle.flow_words.specs.declared.form.Form.{Form}
use Rattle.flow_words.specs.declared.form.Form.TheVariants.{Run}
use Rattle.flow_words.specs.Forms.{fits, forms}
use Rattle.flow_words.specs.Words.{value_in}
use Rattle.flow_words.proofs.Tables.{find_more}
use Rattle.flow_words.proofs.words.form_given.Goals as goal

pub loop-form-preserved : goal.loop-form-preserved
loop-form-preserved c =
    let values = value_in (rows_of (found_of c.args.matches.now)) in
    let i = c.loop-form.form-index in
    let within : i < length forms = omega arith in
    c.loop-form.invariant ∙ find_more (λ (form : Form). fits form values) forms i Run within (sym c.fits.ensures ∙ c.if-fits.false)
