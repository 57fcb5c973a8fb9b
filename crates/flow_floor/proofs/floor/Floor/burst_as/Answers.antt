use Rattle.std.proofs.Common.{◌≤◌, arith, refl, subst}
use Rattle.flow_machine.specs.Values.{BodyValue}
use Rattle.flow_floor.specs.declared.floor.Held.{Held}
use Rattle.flow_floor.specs.Bursting.{MakesBurst}
use Rattle.flow_floor.specs.Bursts.{Bursts}
use Rattle.flow_floor.specs.Ends.{capacities_of}
use Rattle.flow_floor.proofs.Bursting.{burst-begun, goes-then}
use Rattle.flow_floor.proofs.Bursts.{burst-told, bursts-after}
use Rattle.flow_floor.proofs.Gated.{between-one}
use Rattle.flow_floor.proofs.floor.Floor.burst_as.Goals as goal

pub pass-count-requires : goal.pass-count-requires
pass-count-requires g c = let f = c.args.self.now in let q = c.requires.1.1 in λ lifetimes live. (
  live.0,
  (live.1, (burst-begun g.K.Component.rules f.table.shared.table_id f.layout.processes f.layout.connections (capacities_of f.table.shared.key.value) g.began c.args.worker.now c.args.held.now q.0, (refl, (q.1.1.1.1.0, (q.1.0, q.1.1.0))))),
)

pub returns-then-count-eq0-clause-burst : goal.returns-then-count-eq0-clause-burst
returns-then-count-eq0-clause-burst g c = let f = c.args.self.now in let p = c.pass-count.ensures in
    let same = p.same c.if-count-eq0.true in
    bursts-after g.K.Component.rules f.layout.processes f.layout.connections f.table.shared.key.value c.args.most c.args.held.now c.args.worker.now c.leave.new.worker c.take_one.new.held c.take_one.new.worker c.take_one.result
    (goes-then c.args.worker.now c.pass-count.new.worker c.leave.new.worker p.goes c.leave.ensures.goes)
    (subst (λ (h : Held _). Bursts g.K.Component.rules f.layout.processes f.layout.connections f.table.shared.key.value c.args.most h c.leave.new.worker c.take_one.new.held c.take_one.new.worker c.take_one.result) same (c.take_one.ensures.burst c.args.most c.requires.1.1.1.1.1.0))

pub returns-clause-burst : goal.returns-clause-burst
returns-clause-burst g c = let f = c.args.self.now in let p = c.pass-count.ensures in let h = c.pass-count.new.held in let s = c.settle-first in
    let makes = subst (λ (b : BodyValue _). MakesBurst g.K.Component.rules f.table.shared.key.value b c.pass-count.result h c.pass-count.new.worker s.new.held s.new.worker s.result) c.requires.1.1.1.1.1.1.0 s.ensures.made in
    let least : 1 ≤ c.pass-count.result = omega (arith, c.if-count-eq0.false) in
    burst-told g.K.Component.rules f.layout.processes f.layout.connections f.table.shared.key.value c.args.most c.args.held.now h s.new.held c.args.worker.now c.pass-count.new.worker s.new.worker c.tell.new.worker s.result c.pass-count.result p.goes makes p.process least p.most c.tell.ensures.made

pub returns-then-count-eq0-clause-passed : goal.returns-then-count-eq0-clause-passed
returns-then-count-eq0-clause-passed g c = between-one (g.G.Gate.has_passed c.args.gate.now) c.args.held.now.body c.take_one.result c.take_one.ensures.one

pub returns-clause-passed : goal.returns-clause-passed
returns-clause-passed g c = c.pass-count.ensures.passed
