use Rattle.std.proofs.Common.{[], ◌∷◌, ◌∙◌, ◌++◌, ap, length, drop, chars, length-append, arith}
use Rattle.std.proofs.lemmas.Iterator.{YieldsList-from_chars}
use Rattle.std.proofs.lemmas.Iterator.Consumers.{YieldsList-turn, YieldsList-end}
use Rattle.flow_drawing.specs.Quotes.{shown_letters}
use Rattle.flow_drawing.proofs.Letters.{letters-more, letters-end}
use Rattle.flow_drawing.proofs.quote.put_shown_text.Goals as goal

pub loop-letter-preserved : goal.loop-letter-preserved
loop-letter-preserved c =
    let text = c.args.text.now in
    let turn = YieldsList-turn (YieldsList-from_chars text c.utf8.text cc) c.loop-letter.yielded c.loop-letter.letter-iterator c.loop-letter.yielded_by c.next.result c.next.new.self c.in-Some.letter c.in-Some.is c.next.ensures.steps in
    ap (λ n. c.put_shown_letter.new.out.items ++ shown_letters c.in_ok-last.last (drop n (chars text))) (length-append c.loop-letter.yielded (c.in-Some.letter ∷ []))
    ∙ letters-more (chars text) (length c.loop-letter.yielded) c.loop-letter.last c.in-Some.letter c.in_ok-last.last c.loop-letter.out.items c.put_shown_letter.new.out.items _
    turn.0 turn.1 c.in_ok-last.ensures.bytes c.in_ok-last.ensures.last c.loop-letter.invariant

pub returns : goal.returns
returns c =
    let end = YieldsList-end (YieldsList-from_chars c.args.text.now c.utf8.text cc) c.loop-letter.yielded _ c.loop-letter.yielded_by _ _ c.in-None.is c.next.ensures.steps in
    let all = end.1 in
    letters-end (chars c.args.text.now) (length c.loop-letter.yielded) c.loop-letter.last c.loop-letter.out.items _ (omega (arith, all)) c.loop-letter.invariant
