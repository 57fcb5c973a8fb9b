use Rattle.std.proofs.Common.{sym, subst}
use Rattle.flow_floor.specs.Floors.{IsStuckAt}
use Rattle.flow_trials.proofs.floor.steps.stays_dormant.Goals as goal

pub turn-requires-clause-held : goal.turn-requires-clause-held
turn-requires-clause-held g c = c.think.ensures.held c.args.floor.now c.args.worker.now c.requires.held

-- what blocked the body still does: the call left it as it was
pub returns-clause-stuck : goal.returns-clause-stuck
returns-clause-stuck g c = let t = c.in-Blocked.ensures.turned in subst (λ h. IsStuckAt c.args.floor.now c.turn.new.worker h) (sym t.0.0) t.1.stays
