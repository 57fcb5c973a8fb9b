use Rattle.std.proofs.Common.{◌≡◌, drop}
use Rattle.std.specs.Prelude.{find}
use Rattle.clap.specs.Words.{found_of, rows_of}
use Rattle.flow_words.specs.Forms.{fits, forms}
use Rattle.flow_words.specs.Words.{value_in}
use Rattle.flow_words.proofs.words.form_given.Given as goal

abbrev pub invariant-loop-form : goal.invariant-loop-form
invariant-loop-form l =
    let values = value_in (rows_of (found_of l.matches)) in
    find (λ form. fits form values) forms ≡ find (λ form. fits form values) (drop l.form-index forms)
