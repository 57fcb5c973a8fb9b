use Rattle.std.proofs.Common.{◌≡◌, ◌+◌, ◌++◌, ◌∙◌, ap, sym, arith}
use Rattle.flow_make.specs.Numbers.{next_number, number_at}
use Rattle.flow_make.specs.Input.{word_of, words_in_line}
use Rattle.flow_make.proofs.Words.{number-first, number-next, word_put, line_put}
use Rattle.flow_make.proofs.input.put_line.Goals as goal

pub words-init : goal.words-init
words-init c =
    let first = c.args.numbers.now.number in
    let is : c.next.result ≡ number_at first 1 = c.next.ensures.value ∙ sym (number-first first) in
    record {
      begun = omega arith;
      put = c.in_ok-put_word.ensures ∙ ap (λ n. c.args.out.now.items ++ word_of n) is;
      at = c.next.ensures.after ∙ is;
    }

pub words-preserved : goal.words-preserved
words-preserved c =
    let first = c.args.numbers.now.number in
    let now = c.words.invariant in
    let is : c.next-in-words.result ≡ number_at first (c.words.counter + 1) = c.next-in-words.ensures.value ∙ ap next_number now.at ∙ sym (number-next first c.words.counter) in
    record {
      begun = omega arith;
      put = word_put first c.words.counter c.next-in-words.result c.args.out.now.items c.words.out.items c.push.new.self.items c.put_word-in-words.new.out.items now.begun now.put
          c.in_ok-push.ensures.items is c.in_ok-put_word-2.ensures;
      at = c.next-in-words.ensures.after ∙ is;
    }

pub returns-clause-line : goal.returns-clause-line
returns-clause-line c =
    let full : c.words.counter ≡ words_in_line = omega arith in
    line_put c.args.numbers.now.number c.words.counter c.args.out.now.items c.words.out.items c.push-2.new.self.items full c.words.invariant.put c.in_ok-push-2.ensures.items
