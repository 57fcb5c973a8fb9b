use Rattle.std.proofs.Common.{◌≡◌, ℕ, arith, refl, sym, ◌∙◌, subst}
use Rattle.flow_machine.specs.Logs.{turns_made}
use Rattle.flow_machine.specs.Solo.{Goes, IsFirstUnset, some_passes, round_robin}
use Rattle.flow_machine.proofs.SoloLemmas.{passes-none, round-more, round-ends}
use Rattle.flow_machine.proofs.Reaching.{reach-none, reach-then, passed-on}
use Rattle.flow_machine.proofs.net.Net.go_round.Goals as goal

pub loop-init : goal.loop-init
loop-init g c = record { set = c.in_ok-settle_all.ensures.set; len = refl; next = c.turns_made-stamp.ensures.turns; few = c.turns_made-stamp.ensures.few; reaches = reach-none g.K.Component.rules g.met.K.Component.lawful c.settle_all.new.self; goes = passes-none g.K.Component.rules g.met.K.Component.lawful c.settle_all.new.self c.turns_made-stamp.result }

pub loop-preserved : goal.loop-preserved
loop-preserved g c =
    let inv = c.loop.invariant in
    let e = c.in_ok-pass.ensures in
    let moved = rw c.if-branch.true at e.moved in
    record {
      set = e.set;
      len = e.len ∙ inv.len;
      next = e.next;
      few = e.few;
      reaches = reach-then g.K.Component.rules g.met.K.Component.lawful c.settle_all.new.self c.loop.self c.pass.new.self inv.reaches e.reaches;
      goes = round-more g.K.Component.rules g.met.K.Component.lawful c.settle_all.new.self c.loop.self c.pass.new.self c.turns_made-stamp.result c.loop.stamp c.pass.new.stamp (sym e.len) inv.goes e.goes moved.0;
    }

pub loop-smaller : goal.loop-smaller
loop-smaller g c =
    let moved = rw c.if-branch.true at c.in_ok-pass.ensures.moved in
    omega (arith, moved.0, c.in_ok-pass.ensures.few)

pub returns-clause-goes : goal.returns-clause-goes
returns-clause-goes g c =
    let inv = c.loop.invariant in
    let e = c.in_ok-pass.ensures in
    let s = c.in_ok-settle_all.ensures in
    let moved = rw c.if-branch.false at e.moved in
    let first : c.turns_made-stamp.result ≡ turns_made c.args.self.now = c.turns_made-stamp.ensures.turns ∙ s.turns in
    let goes : Goes g.K.Component.rules (some_passes g.K.Component.rules) c.settle_all.new.self (turns_made c.args.self.now) c.loop.self c.loop.stamp = subst (λ (n : ℕ). Goes g.K.Component.rules (some_passes g.K.Component.rules) c.settle_all.new.self n c.loop.self c.loop.stamp) first inv.goes in
    subst (λ (n : ℕ). Goes g.K.Component.rules (round_robin g.K.Component.rules) c.args.self.now (turns_made c.args.self.now) c.pass.new.self n) e.next
    (round-ends g.K.Component.rules g.met.K.Component.lawful c.args.self.now c.settle_all.new.self c.loop.self c.pass.new.self (turns_made c.args.self.now) c.pass.new.stamp c.loop.stamp s.len inv.len e.len e.set s.goes goes e.goes moved.1)

pub returns-clause-reaches : goal.returns-clause-reaches
returns-clause-reaches g c = reach-then g.K.Component.rules g.met.K.Component.lawful c.args.self.now c.settle_all.new.self c.pass.new.self c.settle_all.ensures.reaches (reach-then g.K.Component.rules g.met.K.Component.lawful c.settle_all.new.self c.loop.self c.pass.new.self c.loop.invariant.reaches c.pass.ensures.reaches)

pub returns-in_err-settle_all-clause-reaches : goal.returns-in_err-settle_all-clause-reaches
returns-in_err-settle_all-clause-reaches g c = c.settle_all.ensures.reaches

pub returns-in_err-pass-clause-reaches : goal.returns-in_err-pass-clause-reaches
returns-in_err-pass-clause-reaches g c = reach-then g.K.Component.rules g.met.K.Component.lawful c.args.self.now c.settle_all.new.self c.pass.new.self c.settle_all.ensures.reaches (reach-then g.K.Component.rules g.met.K.Component.lawful c.settle_all.new.self c.loop.self c.pass.new.self c.loop.invariant.reaches c.pass.ensures.reaches)

pub returns-in_err-settle_all-clause-starved : goal.returns-in_err-settle_all-clause-starved
returns-in_err-settle_all-clause-starved g c = passed-on c.from_residual.result c.in_err-settle_all.field-0.0 (IsFirstUnset c.settle_all.new.self.bodies) c.from_residual.ensures.1 c.in_err-settle_all.ensures.starved

pub returns-in_err-pass-clause-starved : goal.returns-in_err-pass-clause-starved
returns-in_err-pass-clause-starved g c =
    passed-on c.from_residual-in_err-pass.result c.in_err-pass.field-0.0 (IsFirstUnset c.pass.new.self.bodies) c.from_residual-in_err-pass.ensures.1 c.in_err-pass.ensures.starved
