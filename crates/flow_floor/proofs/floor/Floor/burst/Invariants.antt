use Rattle.flow_floor.proofs.floor.Floor.burst.Given as goal

-- the body that makes the first turn
abbrev pub ghost-burst_as : goal.ghost-burst_as
ghost-burst_as g a = a.held.now.body
