use Rattle.flow_floor.proofs.floor.Floor.burst_as.Given as goal

abbrev pub ghost-pass : goal.ghost-pass
ghost-pass g a = g.began

abbrev pub ghost-leave : goal.ghost-leave
ghost-leave g a = g.began

abbrev pub ghost-settle : goal.ghost-settle
ghost-settle g a = g.began
