use Rattle.std.proofs.Common.{◌≡◌, ◌++◌, ◌∙◌, ap, ap₂, sym, arith, replicate}
use Rattle.flow_make.specs.Input.{word_length}
use Rattle.flow_make.proofs.Words.{letter-byte}
use Rattle.flow_make.proofs.input.put_word.Goals as goal

pub returns : goal.returns
returns c =
    let all : c.letters.counter ≡ word_length c.args.number = omega arith in
    c.letters.invariant ∙ ap (λ l. c.args.out.now.items ++ l) (ap₂ replicate all (sym (letter-byte c.args.number)))
