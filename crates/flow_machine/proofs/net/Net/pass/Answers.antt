use Rattle.std.proofs.Common.{◌≡◌, ℕ, length, arith, refl, sym, ◌∙◌, subst}
use Rattle.flow_machine.specs.Solo.{Goes, IsFirstUnset, pass_below}
use Rattle.flow_machine.proofs.SoloLemmas.{pass-none, pass-more}
use Rattle.flow_machine.proofs.Reaching.{reach-none, reach-then, passed-on}
use Rattle.flow_machine.proofs.net.Net.pass.Goals as goal

pub loop-process-init : goal.loop-process-init
loop-process-init g c = record { set = c.requires.set; len = refl; next = c.requires.next; few = c.requires.few; grown = omega arith; reaches = reach-none g.K.Component.rules g.met.K.Component.lawful c.args.self.now; goes = pass-none g.K.Component.rules g.met.K.Component.lawful c.args.self.now c.args.stamp.now }

pub loop-process-preserved : goal.loop-process-preserved
loop-process-preserved g c =
    let inv = c.loop-process.invariant in
    let e = c.in_ok-burst.ensures in
    record {
      set = e.set;
      len = e.len ∙ inv.len;
      next = e.next;
      few = e.few;
      grown = omega (arith, inv.grown, e.goes.1);
      reaches = reach-then g.K.Component.rules g.met.K.Component.lawful c.args.self.now c.loop-process.self c.burst.new.self inv.reaches e.reaches;
      goes = pass-more g.K.Component.rules g.met.K.Component.lawful c.args.self.now c.loop-process.self c.burst.new.self c.loop-process.process c.args.stamp.now c.loop-process.stamp c.burst.new.stamp (sym e.len) inv.goes e.goes;
    }

pub returns-clause-goes : goal.returns-clause-goes
returns-clause-goes g c =
    let all : c.loop-process.process ≡ length c.args.self.now.bodies = omega (arith, c.loop-process-test.false, c.loop-process.auto.process-end, c.processes-process-end.ensures.count) in
    subst (λ (n : ℕ). Goes g.K.Component.rules (pass_below g.K.Component.rules n) c.args.self.now c.args.stamp.now c.loop-process.self c.loop-process.stamp) all c.loop-process.invariant.goes

pub returns-clause-reaches : goal.returns-clause-reaches
returns-clause-reaches g c = c.loop-process.invariant.reaches

pub returns-in_err-burst-clause-reaches : goal.returns-in_err-burst-clause-reaches
returns-in_err-burst-clause-reaches g c = reach-then g.K.Component.rules g.met.K.Component.lawful c.args.self.now c.loop-process.self c.burst.new.self c.loop-process.invariant.reaches c.burst.ensures.reaches

pub returns-in_err-burst-clause-starved : goal.returns-in_err-burst-clause-starved
returns-in_err-burst-clause-starved g c =
    passed-on c.from_residual.result c.in_err-burst.field-0.0 (IsFirstUnset c.burst.new.self.bodies) c.from_residual.ensures.1 c.in_err-burst.ensures.starved
