use Rattle.std.proofs.Common.{◌≡◌, ℕ, List, IfOk, sym, subst}
use Rattle.flow_key.proofs.Keys.{template-has, template-lacks}
use Rattle.flow_key.proofs.key.filler_for.Goals as goal

pub returns-then-branch : goal.returns-then-branch
returns-then-branch c =
    let pattern = c.args.pattern.now in
    let is = template-has pattern (c.in_ok-is_template.ensures.0 c.if-branch.true) in
    subst (λ (with : List ℕ). IfOk c.new.result (λ filler. filler ≡ record { pattern = pattern; with = with })) (sym is) c.new.ensures

pub returns : goal.returns
returns c =
    let pattern = c.args.pattern.now in
    let is = template-lacks pattern (λ template. let yes = c.in_ok-is_template.ensures.1 template in let no = c.if-branch.false in cc) in
    subst (λ (with : List ℕ). IfOk c.of_whole.result (λ filler. filler ≡ record { pattern = pattern; with = with })) (sym is) c.of_whole.ensures
