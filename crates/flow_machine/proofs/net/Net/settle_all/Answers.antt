use Rattle.std.proofs.Common.{◌≤◌, length, arith, refl, sym, ◌∙◌}
use Rattle.flow_machine.specs.Logs.{turns_made}
use Rattle.flow_machine.proofs.SoloLemmas.{works-none, works-more, works-all, set-more, set-all, first-unset}
use Rattle.flow_machine.proofs.Reaching.{reach-none, reach-then}
use Rattle.flow_machine.proofs.net.Net.settle_all.Goals as goal

pub loop-process-init : goal.loop-process-init
loop-process-init g c = record { set = λ p b below. absurd (omega (arith, below)); len = refl; turns = refl; reaches = reach-none g.K.Component.rules g.met.K.Component.lawful c.args.self.now; goes = works-none g.K.Component.rules g.met.K.Component.lawful c.args.self.now (turns_made c.args.self.now) }

pub loop-process-preserved : goal.loop-process-preserved
loop-process-preserved g c =
    let settle = rw c.if-not-settle.false at c.settle.ensures.settles in
    let inv = c.loop-process.invariant in
    record {
      set = set-more g.K.Component.rules c.loop-process.self c.settle.new.self c.loop-process.process inv.set settle;
      len = c.settle.ensures.len ∙ inv.len;
      turns = c.settle.ensures.turns ∙ inv.turns;
      reaches = reach-then g.K.Component.rules g.met.K.Component.lawful c.args.self.now c.loop-process.self c.settle.new.self inv.reaches c.settle.ensures.reaches;
      goes = works-more g.K.Component.rules g.met.K.Component.lawful c.args.self.now c.loop-process.self c.settle.new.self c.loop-process.process (turns_made c.args.self.now) (sym c.settle.ensures.len) inv.goes settle;
    }

pub returns : goal.returns
returns g c =
    let inv = c.loop-process.invariant in
    let all : length c.loop-process.self.bodies ≤ c.loop-process.process = omega (arith, inv.len, c.loop-process-test.false, c.processes-process-end.ensures.count) in
    let set = set-all c.loop-process.process c.loop-process.self.bodies all inv.set in
    record { set = set; goes = works-all g.K.Component.rules g.met.K.Component.lawful c.args.self.now c.loop-process.self (turns_made c.args.self.now) inv.goes set; reaches = inv.reaches; starved = tt; len = inv.len; turns = inv.turns }

pub returns-then-not-settle-clause-reaches : goal.returns-then-not-settle-clause-reaches
returns-then-not-settle-clause-reaches g c = reach-then g.K.Component.rules g.met.K.Component.lawful c.args.self.now c.loop-process.self c.settle.new.self c.loop-process.invariant.reaches c.settle.ensures.reaches

pub returns-then-not-settle-clause-starved : goal.returns-then-not-settle-clause-starved
returns-then-not-settle-clause-starved g c = first-unset c.loop-process.self c.settle.new.self c.loop-process.process c.loop-process.invariant.set (rw c.if-not-settle.true at c.settle.ensures.starves)
