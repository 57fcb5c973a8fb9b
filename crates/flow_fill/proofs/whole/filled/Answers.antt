use Rattle.std.proofs.Common.{map, sym, ◌∙◌}
use Rattle.std.specs.Str.Lines.{lines}
use Rattle.flow_fill.specs.Filling.{words_in}
use Rattle.flow_fill.proofs.LineLaws.{filled_made, same_text}
use Rattle.flow_fill.proofs.whole.filled.Goals as goal

pub returns-then-not-third-clause-filled : goal.returns-then-not-third-clause-filled
returns-then-not-third-clause-filled c =
    same_text c.args.given.now c.args.text.now c.in_ok-same.same.items (map (λ row. row.items) c.args.rows.now) c.requires.rows (sym c.third.ensures ∙ c.if-not-third.true) c.in_ok-same.ensures

pub returns-clause-filled : goal.returns-clause-filled
returns-clause-filled c =
    filled_made c.args.given.now (words_in (lines c.args.text.now)) c.args.text.now c.in_ok-made.made (map (λ row. row.items) c.args.rows.now) c.requires.rows c.requires.sound c.in_ok-made.ensures.text
