use Rattle.std.proofs.Common.{◌≡◌, ◌∙◌, chars, false, rules}
use Rattle.flow_drawing.specs.Quotes.{shown_bytes, shown_letters}
use Rattle.flow_drawing.proofs.Reading.{bytes-shown, letters-shown}
use Rattle.flow_drawing.proofs.quote.shown.Goals as goal
use Rattle.flow_drawing.proofs.quote.shown.Goals.{in-Ok+in_ok-put_shown_text-in-Ok, in-Err+in_ok-put_shown_odd-in-Err}

pub returns : goal.returns
returns c =
    let text = c.args.text.now in
    elim c.match-from_utf8.branch [
      | in-Ok+in_ok-put_shown_text-in-Ok w ↦
          let letters : c.match-from_utf8.seen.items ≡ shown_letters 0 (chars text) = search rules in
          letters ∙ letters-shown text (w.in-Ok.ensures.cases.1)
      | in-Err+in_ok-put_shown_odd-in-Err w ↦
          let numbers : c.match-from_utf8.seen.items ≡ shown_bytes false 0 text = search rules in
          numbers ∙ bytes-shown text (w.in-Err.ensures.cases.0)
    ]
