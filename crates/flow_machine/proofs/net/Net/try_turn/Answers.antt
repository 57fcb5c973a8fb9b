use Rattle.std.proofs.Common.{◌+◌, ℕ, sym, ◌∙◌, ap, true, false}
use Rattle.flow_machine.specs.Nets.{level_of}
use Rattle.flow_machine.proofs.SoloLemmas.{blocked-turn, over-turn, turn-count}
use Rattle.flow_machine.proofs.Reaching.{reach-turn}
use Rattle.flow_machine.proofs.net.Net.try_turn.Goals as goal

pub returns-in-Made-clause-turn : goal.returns-in-Made-clause-turn
returns-in-Made-clause-turn g c = c.in-Made.ensures.turns.1

pub returns-in-Made-clause-next : goal.returns-in-Made-clause-next
returns-in-Made-clause-next g c =
    let made = c.in-Made.ensures.turns.1 in
    turn-count c.args.self.now c.args.process (level_of c.args.self.now c.args.process) made.0 c.args.stamp c.turn.new.self made.1 ∙ ap (λ (n : ℕ). n + 1) (sym c.requires.next)

pub returns-in-Blocked-clause-turn : goal.returns-in-Blocked-clause-turn
returns-in-Blocked-clause-turn g c = blocked-turn c.args.self.now c.args.process c.args.stamp c.in-Blocked.field-0 c.turn.new.self c.in-Blocked.ensures.turns

pub returns-in-Over-clause-turn : goal.returns-in-Over-clause-turn
returns-in-Over-clause-turn g c = over-turn c.args.self.now c.args.process c.args.stamp c.in-Over.field-0 c.turn.new.self c.in-Over.ensures.turns

pub returns-in-Made-clause-reaches : goal.returns-in-Made-clause-reaches
returns-in-Made-clause-reaches g c = reach-turn g.K.Component.rules g.met.K.Component.lawful c.args.self.now c.args.process c.args.stamp true c.turn.new.self c.requires.next c.in-Made.ensures.turns.1

pub returns-in-Blocked-clause-reaches : goal.returns-in-Blocked-clause-reaches
returns-in-Blocked-clause-reaches g c = reach-turn g.K.Component.rules g.met.K.Component.lawful c.args.self.now c.args.process c.args.stamp false c.turn.new.self c.requires.next (blocked-turn c.args.self.now c.args.process c.args.stamp c.in-Blocked.field-0 c.turn.new.self c.in-Blocked.ensures.turns)

pub returns-in-Over-clause-reaches : goal.returns-in-Over-clause-reaches
returns-in-Over-clause-reaches g c = reach-turn g.K.Component.rules g.met.K.Component.lawful c.args.self.now c.args.process c.args.stamp false c.turn.new.self c.requires.next (over-turn c.args.self.now c.args.process c.args.stamp c.in-Over.field-0 c.turn.new.self c.in-Over.ensures.turns)
