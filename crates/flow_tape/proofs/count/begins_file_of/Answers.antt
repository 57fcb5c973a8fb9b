use Rattle.std.proofs.Common.{◌++◌, ℕ, true≢false, sym, subst, eqb-true, eq-eqb}
use Rattle.flow_tape.specs.Files.{name, four}
use Rattle.flow_tape.specs.Counts.{BeginsFileOf}
use Rattle.flow_tape.specs.Reading.{letters_at}
use Rattle.flow_own.specs.Reading.{number_at}
use Rattle.std.specs.Int.{w32}
use Rattle.flow_tape.proofs.Counting.{told_begins, begins_named, begins_numbered, no_stop, told_is}
use Rattle.flow_tape.proofs.count.begins_file_of.Goals as goal

pub returns-in_default : goal.returns-in_default
returns-in_default c =
    (λ no. absurd (true≢false (sym no)), λ b. absurd (no_stop c.in_default.field-0 (letters_at name c.args.bytes.now) (tt, four c.args.number ++ b.rest) c.in_default.ensures (begins_named c.args.bytes.now c.args.number b)))

pub returns-in-Ok-four_of : goal.returns-in-Ok-four_of
returns-in-Ok-four_of c =
    let rest = c.in-Ok.rest.now in
    let told = c.in-Ok-four_of.told in
    let after = c.in-Ok-four_of.field-0-1.now in (
      λ same. subst (λ (n : ℕ). BeginsFileOf n c.args.bytes.now) (eqb-true _ _ same) (told_begins c.args.bytes.now rest after told c.bytes_are_small.ensures c.in-Ok.ensures c.in-Ok-four_of.ensures),
      λ b. eq-eqb told c.args.number (told_is c.args.bytes.now rest after told c.args.number c.ranges.number.fits c.in-Ok.ensures c.in-Ok-four_of.ensures b),
    )

pub returns-in-Err : goal.returns-in-Err
returns-in-Err c =
    (λ no. absurd (true≢false (sym no)), λ b. absurd (no_stop c.in-Err.field-0 (number_at w32 4294967295 c.in-Ok.rest.now) (c.args.number, b.rest) c.in-Err.ensures (begins_numbered c.args.bytes.now c.in-Ok.rest.now c.args.number c.ranges.number.fits c.in-Ok.ensures b)))
