use Rattle.flow_floor.proofs.floor.Floor.go_on.Given as goal

abbrev pub ghost-receive_on : goal.ghost-receive_on
ghost-receive_on g a = g.began

abbrev pub ghost-send_on : goal.ghost-send_on
ghost-send_on g a = g.began
