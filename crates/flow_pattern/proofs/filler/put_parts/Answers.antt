use Rattle.std.proofs.Common.{ℕ, false, List, subst}
use Rattle.regex.specs.Replace.{bytes_of}
use Rattle.regex.specs.Search.{group_span}
use Rattle.flow_pattern.specs.Rewriting.{IsNewText}
use Rattle.flow_pattern.proofs.Parts.{written_more}
use Rattle.flow_pattern.proofs.filler.put_parts.Goals as goal

pub loop-part-preserved : goal.loop-part-preserved
loop-part-preserved c most before is =
    let text = c.args.text.now in
    let held : ℕ → List ℕ = λ n. bytes_of text (group_span false text c.args.whole c.args.cells.now n) in
    subst (λ (x : List ℕ). IsNewText most x c.put_part.new.written) (written_more held c.args.parts.now c.loop-part.part-index _ c.loop-part-test.true before)
    (c.in_ok-put_part.ensures most _ (c.loop-part.invariant most before is))
