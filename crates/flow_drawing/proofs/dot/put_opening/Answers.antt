use Rattle.std.proofs.Common.{◌≡◌, ℕ, List, ◌++◌, ◌∙◌, ap, append_assoc}
use Rattle.std.specs.Prelude.{codes}
use Rattle.flow_drawing.specs.declared.quote.Form.TheVariants.{Dot}
use Rattle.flow_drawing.specs.Quotes.{quoted}
use Rattle.flow_drawing.specs.Spelling.{box_id}
use Rattle.flow_drawing.proofs.dot.put_opening.Goals as goal

opening-of : (t0 t1 t2 t3 t4 t5 a box b name e : List ℕ) → t1 ≡ t0 ++ a → t2 ≡ t1 ++ box → t3 ≡ t2 ++ b → t4 ≡ t3 ++ name → t5 ≡ t4 ++ e
    → t5 ≡ t0 ++ (a ++ box ++ b ++ name ++ e)
opening-of t0 t1 t2 t3 t4 t5 a box b name e e1 e2 e3 e4 e5 =
    e5 ∙ ap (λ x. x ++ e) (e4 ∙ ap (λ x. x ++ name) (e3 ∙ ap (λ x. x ++ b) (e2 ∙ ap (λ x. x ++ box) e1))) ∙ simp append_assoc

pub returns : goal.returns
returns c =
    opening-of c.args.out.now.items c.extend_from_slice.new.self.items c.put_numbers.new.out.items c.extend_from_slice-2.new.self.items c.put_quoted.new.out.items c.extend_from_slice-3.new.self.items
    (codes "subgraph cluster_") (box_id c.args.process c.args.depth) (codes " {\nlabel=\"subnet ") (quoted Dot c.args.name.now) (codes "\"\n")
    c.in_ok-extend_from_slice.ensures.items c.in_ok-put_numbers.ensures c.in_ok-extend_from_slice-2.ensures.items
    (c.in_ok-put_quoted.ensures ∙ ap (λ (l : List ℕ). c.extend_from_slice-2.new.self.items ++ quoted Dot l) c.as_slice.ensures)
    c.in_ok-extend_from_slice-3.ensures.items
