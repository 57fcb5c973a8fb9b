use Rattle.std.proofs.Common.{ℕ, false, List, ◌++◌, take}
use Rattle.regex.specs.Replace.{bytes_of}
use Rattle.regex.specs.Search.{group_span}
use Rattle.flow_pattern.specs.Rewriting.{IsNewText}
use Rattle.flow_pattern.specs.Template.{parts_text}
use Rattle.flow_pattern.proofs.filler.put_parts.Given as goal

abbrev pub invariant-loop-part : goal.invariant-loop-part
invariant-loop-part l =
    (most : ℕ) (before : List ℕ) → IsNewText most before l.fn.written
    → IsNewText most (before ++ parts_text (λ n. bytes_of l.text (group_span false l.text l.whole l.cells n)) (take l.part-index l.parts)) l.written
