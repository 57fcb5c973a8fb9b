use Rattle.flow_floor.proofs.Gated.{between-one}
use Rattle.flow_runner.proofs.work.whole_or_burst.Goals as goal

-- one turn has none between
pub returns-then-most-eq1-clause-passed : goal.returns-then-most-eq1-clause-passed
returns-then-most-eq1-clause-passed g c = between-one (g.G.Gate.has_passed c.args.gate.now) c.args.held.now.body c.whole_turn.result c.whole_turn.ensures.one
