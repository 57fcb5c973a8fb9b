use Rattle.flow_runner.proofs.line.Line.open.Given as goal

-- how many processes there are
abbrev pub ghosts-open_as : goal.ghosts-open_as
ghosts-open_as a = record { most = a.processes }
