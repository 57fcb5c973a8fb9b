use Rattle.flow_played.specs.Played.{played_by}
use Rattle.flow_played.proofs.Places.{replaced-at}
use Rattle.flow_played.proofs.ToldAlike.{told-replaced}
use Rattle.flow_played.proofs.laws.players_are_told_of.Goals as goal

pub returns-clause-quiet : goal.returns-clause-quiet
returns-clause-quiet g c = λ tapes s. (told-replaced (played_by tapes) s).quiet

pub returns-clause-places : goal.returns-clause-places
returns-clause-places g c = λ tapes s p. replaced-at (played_by tapes) s.kept.processes p

pub returns-clause-report : goal.returns-clause-report
returns-clause-report g c = λ tapes plan s told. ((told-replaced (played_by tapes) s).reports plan told).0
