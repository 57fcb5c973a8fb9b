use Rattle.std.proofs.Common.{◌≡◌, ◌+◌, length, length-set, arith, refl, sym, ◌∙◌, ap, subst}
use Rattle.flow_machine.specs.Values.{NetValue}
use Rattle.flow_machine.specs.Nets.{level_of}
use Rattle.flow_machine.specs.Logs.{turns_made}
use Rattle.flow_machine.specs.Starts.{AllSet}
use Rattle.flow_machine.proofs.SoloLemmas.{burst-none, burst-more, burst-ends, set-after, set-turned, first-unset}
use Rattle.flow_machine.proofs.Reaching.{reach-none, reach-then}
use Rattle.flow_machine.proofs.net.Net.burst.Goals as goal

pub loop-stamp-init : goal.loop-stamp-init
loop-stamp-init g c = record { set = c.requires.set; len = refl; next = c.requires.next; few = c.requires.few; reaches = reach-none g.K.Component.rules g.met.K.Component.lawful c.args.self.now; goes = burst-none g.K.Component.rules g.met.K.Component.lawful c.args.self.now c.args.process c.args.stamp.now }

pub loop-stamp-preserved : goal.loop-stamp-preserved
loop-stamp-preserved g c =
    let made = rw c.loop-stamp-test.true at c.make_turn.ensures.turn in
    let next : turns_made c.make_turn.new.self ≡ c.loop-stamp.stamp + 1 = rw c.loop-stamp-test.true at c.make_turn.ensures.next in
    let settle = rw c.if-not-settle.false at c.settle.ensures.settles in
    let inv = c.loop-stamp.invariant in
    record {
      set = set-after g.K.Component.rules c.loop-stamp.self c.make_turn.new.self c.settle.new.self c.args.process (level_of c.loop-stamp.self c.args.process) c.loop-stamp.stamp made.0 inv.set made.1 settle;
      len = c.settle.ensures.len ∙ ap length made.1.bodies ∙ length-set c.loop-stamp.self.bodies c.args.process made.1.after ∙ inv.len;
      next = sym next ∙ sym c.settle.ensures.turns;
      few = omega (arith, next, c.make_turn.ensures.few);
      reaches = reach-then g.K.Component.rules g.met.K.Component.lawful c.args.self.now c.make_turn.new.self c.settle.new.self (reach-then g.K.Component.rules g.met.K.Component.lawful c.args.self.now c.loop-stamp.self c.make_turn.new.self inv.reaches c.make_turn.ensures.reaches) c.settle.ensures.reaches;
      goes = burst-more g.K.Component.rules g.met.K.Component.lawful c.args.self.now c.loop-stamp.self c.make_turn.new.self c.settle.new.self c.args.process c.args.stamp.now c.loop-stamp.stamp inv.goes made settle;
    }

pub loop-stamp-smaller : goal.loop-stamp-smaller
loop-stamp-smaller g c =
    let made = rw c.loop-stamp-test.true at c.make_turn.ensures.turn in
    let next : turns_made c.make_turn.new.self ≡ c.loop-stamp.stamp + 1 = rw c.loop-stamp-test.true at c.make_turn.ensures.next in
    omega (arith, next, c.make_turn.ensures.few)

pub returns : goal.returns
returns g c =
    let none = rw c.loop-stamp-test.false at c.make_turn.ensures.turn in
    let inv = c.loop-stamp.invariant in
    record {
      set = subst (λ (net : NetValue g.row.K.Denot). AllSet net.bodies) (sym none.1) inv.set;
      next = inv.next ∙ ap turns_made (sym none.1);
      few = inv.few;
      len = ap (λ (net : NetValue g.row.K.Denot). length net.bodies) none.1 ∙ inv.len;
      reaches = reach-then g.K.Component.rules g.met.K.Component.lawful c.args.self.now c.loop-stamp.self c.make_turn.new.self inv.reaches c.make_turn.ensures.reaches;
      starved = tt;
      goes = burst-ends g.K.Component.rules g.met.K.Component.lawful c.args.self.now c.loop-stamp.self c.make_turn.new.self c.args.process c.args.stamp.now c.loop-stamp.stamp inv.goes none;
    }

pub returns-then-not-settle-clause-reaches : goal.returns-then-not-settle-clause-reaches
returns-then-not-settle-clause-reaches g c = reach-then g.K.Component.rules g.met.K.Component.lawful c.args.self.now c.make_turn.new.self c.settle.new.self (reach-then g.K.Component.rules g.met.K.Component.lawful c.args.self.now c.loop-stamp.self c.make_turn.new.self c.loop-stamp.invariant.reaches c.make_turn.ensures.reaches) c.settle.ensures.reaches

pub returns-then-not-settle-clause-starved : goal.returns-then-not-settle-clause-starved
returns-then-not-settle-clause-starved g c =
    let made = rw c.loop-stamp-test.true at c.make_turn.ensures.turn in
    first-unset c.make_turn.new.self c.settle.new.self c.args.process (set-turned c.loop-stamp.self c.make_turn.new.self c.args.process (level_of c.loop-stamp.self c.args.process) c.loop-stamp.stamp made.0 c.loop-stamp.invariant.set made.1) (rw c.if-not-settle.true at c.settle.ensures.starves)
