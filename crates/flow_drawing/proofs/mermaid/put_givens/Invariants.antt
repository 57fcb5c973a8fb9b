use Rattle.std.proofs.Common.{◌≡◌, ◌++◌, take}
use Rattle.std.specs.List.{flat_map}
use Rattle.flow_drawing.specs.Spelling.{mermaid_given}
use Rattle.flow_drawing.proofs.mermaid.put_givens.Given as goal

abbrev pub invariant-loop-given : goal.invariant-loop-given
invariant-loop-given l = l.out.items ≡ l.initial.out.items ++ flat_map mermaid_given (take l.given-index l.givens)
