use Rattle.std.proofs.Common.{ℕ, ◌++◌, false, List, sym, subst, ap₂, ◌∙◌}
use Rattle.regex.specs.Replace.{bytes_of}
use Rattle.regex.specs.Search.{group_span}
use Rattle.flow_pattern.specs.Rewriting.{IsNewText}
use Rattle.flow_pattern.specs.Template.{parts_text}
use Rattle.flow_pattern.proofs.Writing.{on_ok}
use Rattle.flow_pattern.proofs.filler.fill.Goals as goal

pub returns-clause-filled : goal.returns-clause-filled
returns-clause-filled c =
    let text = c.args.text.now in
    let parts = c.args.parts.now in
    on_ok _ _
    (λ put m there its most before is.
    subst (λ (x : List ℕ). IsNewText most (before ++ x) c.put_parts.new.written)
    (ap₂ (λ (s : ℕ × ℕ) (x : List ℕ). parts_text (λ n. bytes_of text (group_span false text s x n)) parts) (sym its) c.as_slice.ensures.value ∙ c.in_ok-cells.ensures.written m there)
    (put most before is))
    c.put_parts.result c.put_parts.ensures
