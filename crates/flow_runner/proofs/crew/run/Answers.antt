use Rattle.std.proofs.Common.{sym, ap, ◌∙◌, subst}
use Rattle.flow_machine.specs.Solo.{ReachesNet}
use Rattle.flow_floor.specs.Floors.{opened_net}
use Rattle.flow_floor.specs.Shut.{IsShut}
use Rattle.flow_runner.specs.Crews.{HasWorkers, merged, turns_of_crew}
use Rattle.flow_runner.proofs.Crews.{merge-to-all, shut-reaches}
use Rattle.flow_runner.proofs.crew.run.Goals as goal

-- the crew are all that the floor was opened for, when they have served
pub returns-in-Ok-make_turns-clause-crew : goal.returns-in-Ok-make_turns-clause-crew
returns-in-Ok-make_turns-clause-crew g c = subst (λ n. HasWorkers n c.of-by.result) c.in-Ok-make_turns.ensures.crew.1 c.of-by.ensures.count

pub returns-in-Ok-make_turns-clause-made : goal.returns-in-Ok-make_turns-clause-made
returns-in-Ok-make_turns-clause-made g c =
    subst (λ start. IsShut g.K.Component.rules start (turns_of_crew c.of-by.result) c.close-closed.result.net) c.in-Ok-open.ensures.opened
    (subst (λ made. IsShut g.K.Component.rules (opened_net c.in-Ok-open.opened.floor) made c.close-closed.result.net)
    (sym (ap merged c.of-by.ensures.turns ∙ merge-to-all c.in-Ok-make_turns.crew.items)) c.close-closed.ensures.net)

pub returns-in-Ok-make_turns-clause-reaches : goal.returns-in-Ok-make_turns-clause-reaches
returns-in-Ok-make_turns-clause-reaches g c =
    subst (λ start. ReachesNet g.K.Component.rules start c.close-closed.result.net) c.in-Ok-open.ensures.opened
    (shut-reaches g.K.Component.rules _ c.close-closed.result.net _ c.close-closed.ensures.net)
