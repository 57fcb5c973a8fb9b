use Rattle.std.proofs.Common.{◌≡◌, [], ◌∷◌, ◌++◌, ◌∙◌, ap, arith, rules, sym, subst}
use Rattle.flow_runner.specs.declared.line.LinePass.{LinePass}
use Rattle.flow_runner.specs.Lines.{IsPassAt, AreAllPasses, all_puts, all_takes, puts_of, takes_of}
use Rattle.flow_runner.proofs.Fairs.{merges}
use Rattle.flow_runner.proofs.Lined.{both-passes, all-pair, merged-pair}
use Rattle.flow_runner.proofs.line.Line.gather.Goals as goal
use Rattle.flow_runner.proofs.line.Line.gather.Goals.{In-Some}

both : (c : In-Some) → IsPassAt c.args.self.now c.in-Some.field-0 × IsPassAt c.args.self.now c.loop-pass.first
both c = both-passes c.args.self.now c.pop.new.self.items c.in-Some.field-0 c.loop-pass.first (subst (λ xs. AreAllPasses c.args.self.now (xs ++ c.loop-pass.first ∷ [])) c.in-Some.ensures.items c.loop-pass.invariant.all)

pub absorb-requires-clause-rule : goal.absorb-requires-clause-rule
absorb-requires-clause-rule c = merges _ _ _ _ (both (goal.at.absorb-requires-clause-rule c).In-Some).1.1

pub loop-pass-preserved : goal.loop-pass-preserved
loop-pass-preserved c = let i = c.loop-pass.invariant in let e = c.absorb.ensures in let items = c.in-Some.ensures.items in let xs = c.pop.new.self.items in let line = c.args.self.now in
    let a = c.in-Some.field-0 in
    let b = c.loop-pass.first in
    let d : LinePass = record { pass = c.absorb.new.pass } in
    let is = (both (goal.at.loop-pass-preserved c).In-Some).1 in
    record {
      all = all-pair line xs a b d ((e.queue.0 ∙ is.0.0, e.queue.2 ∙ is.0.1), omega (arith, ap (λ v. v.parts) e.rule, is.1), ap (λ v. v.most) e.rule ∙ is.2) (ap (λ v. v.parts) e.rule) (subst (λ ys. AreAllPasses line (ys ++ b ∷ [])) items i.all);
      put = merged-pair puts_of xs a b d (ap (λ v. v.put) e.rule) ∙ ap (λ ys. all_puts (ys ++ b ∷ [])) (sym items) ∙ i.put;
      taken = merged-pair takes_of xs a b d (ap (λ v. v.taken) e.rule) ∙ ap (λ ys. all_takes (ys ++ b ∷ [])) (sym items) ∙ i.taken;
    }

pub returns-clause-put : goal.returns-clause-put
returns-clause-put c = let e : c.loop-pass.passes.items ≡ [] = search rules in ap (λ xs. all_puts (xs ++ c.loop-pass.first ∷ [])) (sym e) ∙ c.loop-pass.invariant.put

pub returns-clause-taken : goal.returns-clause-taken
returns-clause-taken c = let e : c.loop-pass.passes.items ≡ [] = search rules in ap (λ xs. all_takes (xs ++ c.loop-pass.first ∷ [])) (sym e) ∙ c.loop-pass.invariant.taken
