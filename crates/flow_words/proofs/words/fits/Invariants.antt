use Rattle.std.proofs.Common.{◌≡◌, drop, is_some}
use Rattle.std.specs.List.{list_all}
use Rattle.clap.specs.Words.{found_of, rows_of}
use Rattle.flow_words.specs.Arguments.{arguments}
use Rattle.flow_words.specs.Forms.{admits, fits, place_of}
use Rattle.flow_words.specs.Words.{value_in}
use Rattle.flow_words.proofs.words.fits.Given as goal

abbrev pub invariant-loop-argument : goal.invariant-loop-argument
invariant-loop-argument l =
    let values = value_in (rows_of (found_of l.matches)) in
    fits l.form values ≡ list_all (λ a. admits (place_of l.form a) (is_some (values a))) (drop l.argument-index arguments)
