use Rattle.std.proofs.Common.{sym, ◌∙◌}
use Rattle.std.proofs.lemmas.List.{take_rest}
use Rattle.std.specs.Prelude.{codes}
use Rattle.flow_parse.proofs.Cutting.{automatic_cut, no_automatic}
use Rattle.flow_parse.proofs.line.automatic.Goals as goal

pub returns-then-are : goal.returns-then-are
returns-then-are c = rw take_rest (automatic_cut c.args.bytes.now (codes "IN") c.word_len-n.result c.word_len-n.ensures (sym c.are.ensures ∙ c.if-are.true))

pub returns-then-are-2 : goal.returns-then-are-2
returns-then-are-2 c = rw take_rest (automatic_cut c.args.bytes.now (codes "OUT") c.word_len-n.result c.word_len-n.ensures (sym c.are-2.ensures ∙ c.if-are-2.true))

pub returns : goal.returns
returns c = no_automatic c.args.bytes.now c.word_len-n.result c.word_len-n.ensures (sym c.are.ensures ∙ c.if-are.false) (sym c.are-2.ensures ∙ c.if-are-2.false)
