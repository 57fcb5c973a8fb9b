use Rattle.flow_trials.proofs.floor.steps.makes.Goals as goal

pub turn-requires-clause-held : goal.turn-requires-clause-held
turn-requires-clause-held g c = c.think.ensures.held c.args.floor.now c.args.worker.now c.requires.held
