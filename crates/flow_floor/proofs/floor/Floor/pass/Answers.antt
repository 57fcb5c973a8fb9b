use Rattle.std.proofs.Common.{◌+◌, ◌∙◌, ℕ, ap, arith, subst}
use Rattle.flow_floor.specs.Ends.{capacities_of}
use Rattle.flow_floor.proofs.Bursting.{burst-thought, goes-then}
use Rattle.flow_floor.proofs.Gated.{between-fewer, between-more, turns-rest}
use Rattle.flow_floor.proofs.floor.Floor.pass.Goals as goal

pub returns-then-not-goes_on-clause-burst : goal.returns-then-not-goes_on-clause-burst
returns-then-not-goes_on-clause-burst g c = let f = c.args.self.now in
    burst-thought g.K.Component.rules f.table.shared.table_id f.layout.processes f.layout.connections (capacities_of f.table.shared.key.value) g.began c.go_on.new.worker c.go_on.new.held c.goes_on.new.self c.go_on.new.ends c.go_on.ensures.burst c.goes_on.ensures.rests c.goes_on.ensures.process

pub loop-count-preserved : goal.loop-count-preserved
loop-count-preserved g c = let f = c.args.self.now in let inv = c.loop-count.invariant in let e = c.go_on.ensures in let t = c.goes_on.ensures in (
  burst-thought g.K.Component.rules f.table.shared.table_id f.layout.processes f.layout.connections (capacities_of f.table.shared.key.value) g.began c.go_on.new.worker c.go_on.new.held c.goes_on.new.self c.go_on.new.ends e.burst t.rests t.process,
  e.one c.if-not-go_on.false ∙ ap (λ k. k + 1) inv.1,
  goes-then c.args.worker.now c.loop-count.worker c.go_on.new.worker inv.2 e.goes,
  t.wired f e.wired,
  t.set c.if-not-goes_on.false,
  t.process ∙ e.process ∙ inv.5,
  λ none. absurd (omega (arith, none)),
  (let turned = e.turned c.if-not-go_on.false in omega (arith, turns-rest g.K.Component.rules c.go_on.new.held.body c.goes_on.new.self.body t.rests, turned.turns, inv.7)),
  (let turned = e.turned c.if-not-go_on.false in
      between-more (g.G.Gate.has_passed c.args.gate.now) c.args.held.now.body.process.turns c.loop-count.count c.loop-count.held.body.process.turns inv.7
      (subst (λ (n : ℕ). (maker : ℕ) × g.G.Gate.has_passed c.args.gate.now maker n) turned.turns (t.gated c.if-not-goes_on.false turned.owes)) inv.8),
)

pub returns-then-not-go_on-clause-passed : goal.returns-then-not-go_on-clause-passed
returns-then-not-go_on-clause-passed g c = between-fewer (g.G.Gate.has_passed c.args.gate.now) c.args.held.now.body.process.turns c.loop-count.count c.loop-count.invariant.8

pub returns-then-not-goes_on-clause-passed : goal.returns-then-not-goes_on-clause-passed
returns-then-not-goes_on-clause-passed g c = c.loop-count.invariant.8

pub returns-clause-passed : goal.returns-clause-passed
returns-clause-passed g c k least few = c.loop-count.invariant.8 k least (omega (arith, few, c.loop-count-test.false))
