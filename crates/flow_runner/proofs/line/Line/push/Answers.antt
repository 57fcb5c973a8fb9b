use Rattle.std.proofs.Common.{arith, sym, ap, ◌∙◌}
use Rattle.flow_runner.specs.Lines.{processes_at}
use Rattle.flow_runner.proofs.Fairs.{puts, learns, alone-leaves}
use Rattle.flow_runner.proofs.Told.{put-tells}
use Rattle.flow_runner.proofs.line.Line.push.Goals as goal

pub push_as-requires-clause-rule : goal.push_as-requires-clause-rule
push_as-requires-clause-rule g c = let p = c.requires.pass in let l = c.args.self.now in let below = c.requires.range in (puts _ _ _ _ p.1 (omega (arith, below, p.2)) (l.sized ∙ sym p.2), learns _ _)

pub returns-in-Ok-clause-pushed : goal.returns-in-Ok-clause-pushed
returns-in-Ok-clause-pushed g c _ = put-tells c.args.self.now c.args.pass.now (record { pass = c.push_as.new.pass }) c.args.process c.requires.pass.2 c.in-Ok.ensures.rule

pub returns-in-Ok-clause-alone : goal.returns-in-Ok-clause-alone
returns-in-Ok-clause-alone g c all = let p = c.requires.pass in let h = c.in-Ok.ensures.rule in (h.1, alone-leaves _ h.0 h.1 h.4 all, (λ t. absurd (cc)), λ _. omega (arith, h.2, p.2))

pub returns-in-Err-clause-full : goal.returns-in-Err-clause-full
returns-in-Err-clause-full g c _ = let l = c.args.self.now in let r = c.in-Err.ensures.rule in let h = r.2 in (ap (λ v. processes_at v.put) r.1, ap (λ v. processes_at v.taken) r.1, (h.2.0, h.0, h.1 ∙ l.sized, h.2.1))

pub returns-in-Err-clause-alone : goal.returns-in-Err-clause-alone
returns-in-Err-clause-alone g c all = let l = c.args.self.now in let h = c.in-Err.ensures.rule.2 in (h.0, alone-leaves _ h.2.0 h.0 h.2.1 all, (λ _. h.1 ∙ l.sized), λ t. absurd (cc))
