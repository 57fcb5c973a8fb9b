use Rattle.std.proofs.Common.{◌≤◌, length, arith, refl, sym, ◌∙◌}
use Rattle.flow_machine.specs.Logs.{turns_made}
use Rattle.flow_machine.proofs.SoloLemmas.{works-none, works-more, works-all, set-more, set-all}
use Rattle.flow_journal.proofs.turn.settle_all.Goals as goal

pub loop-process-init : goal.loop-process-init
loop-process-init g c = record { set = λ p b below. absurd (omega (arith, below)); len = refl; turns = refl; goes = works-none g.K.Component.rules g.met.K.Component.lawful c.args.net.now (turns_made c.args.net.now) }

pub loop-process-preserved : goal.loop-process-preserved
loop-process-preserved g c =
    let inv = c.loop-process.invariant in
    let settle = c.in_ok-settle.ensures.settles in
    record {
      set = set-more g.K.Component.rules c.loop-process.net c.settle.new.net c.loop-process.process inv.set settle;
      len = c.settle.ensures.len ∙ inv.len;
      turns = c.settle.ensures.turns ∙ inv.turns;
      goes = works-more g.K.Component.rules g.met.K.Component.lawful c.args.net.now c.loop-process.net c.settle.new.net c.loop-process.process (turns_made c.args.net.now) (sym c.settle.ensures.len) inv.goes settle;
    }

pub returns : goal.returns
returns g c =
    let inv = c.loop-process.invariant in
    let all : length c.loop-process.net.bodies ≤ c.loop-process.process = omega (arith, inv.len, c.loop-process-test.false, c.processes-process-end.ensures.count) in
    let set = set-all c.loop-process.process c.loop-process.net.bodies all inv.set in
    record { set = set; goes = works-all g.K.Component.rules g.met.K.Component.lawful c.args.net.now c.loop-process.net (turns_made c.args.net.now) inv.goes set; len = inv.len; turns = inv.turns }
