use Rattle.flow_machine.specs.declared.answers.Case.TheVariants as cases
use Rattle.flow_machine.proofs.NetTurns.{case-is}
use Rattle.flow_floor.proofs.Came.{close-range, wired-came}
use Rattle.flow_floor.proofs.floor.Floor.take_turn.Goals as goal

pub text_turn-requires-clause-input : goal.text_turn-requires-clause-input
text_turn-requires-clause-input g c = let t = case-is c.args.held.now.body.process (cases.Initial c.in-Initial.port) c.in-Initial.ensures in (t.0, t.2)

pub close_turn-requires-clause-range : goal.close_turn-requires-clause-range
close_turn-requires-clause-range g c = close-range _ _ c.args.held.now.body c.in-Close.ensures c.requires.wired

pub returns-in-Level-clause-wired : goal.returns-in-Level-clause-wired
returns-in-Level-clause-wired g c = wired-came g.K.Component.rules _ _ _ _ c.args.held.now c.level_turn.new.held c.args.worker.now c.level_turn.new.worker c.level_turn.result c.level_turn.ensures.turned c.requires.wired

pub returns-in-Deactivate-clause-wired : goal.returns-in-Deactivate-clause-wired
returns-in-Deactivate-clause-wired g c = wired-came g.K.Component.rules _ _ _ _ c.args.held.now c.sleep_turn.new.held c.args.worker.now c.sleep_turn.new.worker c.sleep_turn.result c.sleep_turn.ensures.turned c.requires.wired

pub returns-in-Idle-clause-wired : goal.returns-in-Idle-clause-wired
returns-in-Idle-clause-wired g c = wired-came g.K.Component.rules _ _ _ _ c.args.held.now c.idle_turn.new.held c.args.worker.now c.idle_turn.new.worker c.idle_turn.result c.idle_turn.ensures.turned c.requires.wired

pub returns-in-Receive-clause-wired : goal.returns-in-Receive-clause-wired
returns-in-Receive-clause-wired g c = wired-came g.K.Component.rules _ _ _ _ c.args.held.now c.receive_turn.new.held c.args.worker.now c.receive_turn.new.worker c.receive_turn.result c.receive_turn.ensures.turned c.requires.wired

pub returns-in-Send-clause-wired : goal.returns-in-Send-clause-wired
returns-in-Send-clause-wired g c = wired-came g.K.Component.rules _ _ _ _ c.args.held.now c.send_turn.new.held c.args.worker.now c.send_turn.new.worker c.send_turn.result c.send_turn.ensures.turned c.requires.wired

pub returns-in-Initial-clause-wired : goal.returns-in-Initial-clause-wired
returns-in-Initial-clause-wired g c = wired-came g.K.Component.rules _ _ _ _ c.args.held.now c.text_turn.new.held c.args.worker.now c.text_turn.new.worker c.text_turn.result c.text_turn.ensures.turned c.requires.wired
