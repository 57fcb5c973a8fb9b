use Rattle.flow_machine.proofs.SoloLemmas.{settles-wishing, settles-failed, think-count}
use Rattle.flow_journal.proofs.turn.settle.Goals as goal

pub returns-in-Wishing-clause-settles : goal.returns-in-Wishing-clause-settles
returns-in-Wishing-clause-settles g c = settles-wishing g.K.Component.rules c.args.net.now c.args.process c.think.new.self c.in-Wishing.ensures.thinks

pub returns-in-Failed-clause-settles : goal.returns-in-Failed-clause-settles
returns-in-Failed-clause-settles g c = settles-failed g.K.Component.rules c.args.net.now c.args.process c.in-Failed.field-0 c.think.new.self c.in-Failed.ensures.thinks

pub returns-in-Wishing-clause-turns : goal.returns-in-Wishing-clause-turns
returns-in-Wishing-clause-turns g c = think-count g.K.Component.rules c.args.net.now c.args.process c.think.result c.think.new.self c.think.ensures.thinks

pub returns-in-Failed-clause-turns : goal.returns-in-Failed-clause-turns
returns-in-Failed-clause-turns g c = think-count g.K.Component.rules c.args.net.now c.args.process c.think.result c.think.new.self c.think.ensures.thinks

pub returns-in-NoMemory-clause-turns : goal.returns-in-NoMemory-clause-turns
returns-in-NoMemory-clause-turns g c = think-count g.K.Component.rules c.args.net.now c.args.process c.think.result c.think.new.self c.think.ensures.thinks
