use Rattle.std.proofs.lemmas.List.{nil_from_length}
use Rattle.flow_tape.specs.Reading.{letters_at}
use Rattle.flow_tape.proofs.Loops.{letter_on, letter_ends, letter_strays, letters_read}
use Rattle.flow_tape.proofs.letters.letters_of.Goals as goal

pub returns-in_default : goal.returns-in_default
returns-in_default c =
    letter_ends c.args.letters.now c.loop-letter.letter-index c.loop-letter.rest.now (letters_at c.args.letters.now c.args.bytes.now) c.loop-letter-test.true (nil_from_length c.loop-letter.rest.now c.in_default.ensures.cases) c.loop-letter.invariant

pub returns-then-first-letter : goal.returns-then-first-letter
returns-then-first-letter c =
    letter_strays c.args.letters.now c.loop-letter.letter-index c.in-Some.first.now c.loop-letter.rest.now c.in-Some.after.now (letters_at c.args.letters.now c.args.bytes.now) c.loop-letter-test.true c.in-Some.ensures.cases.0 c.if-first-letter.true c.loop-letter.invariant

pub loop-letter-preserved : goal.loop-letter-preserved
loop-letter-preserved c =
    letter_on c.args.letters.now c.loop-letter.letter-index c.in-Some.first.now c.loop-letter.rest.now c.in-Some.after.now (letters_at c.args.letters.now c.args.bytes.now) c.loop-letter-test.true c.in-Some.ensures.cases.0 c.if-first-letter.false c.loop-letter.invariant

pub returns : goal.returns
returns c = letters_read c.args.letters.now c.loop-letter.letter-index c.loop-letter.rest.now (letters_at c.args.letters.now c.args.bytes.now) c.loop-letter-test.false c.loop-letter.invariant
