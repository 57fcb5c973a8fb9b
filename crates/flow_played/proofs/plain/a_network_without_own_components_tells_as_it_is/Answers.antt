use Rattle.flow_played.specs.Others.{other_at}
use Rattle.flow_played.proofs.Places.{replaced-at}
use Rattle.flow_played.proofs.ToldAlike.{told-replaced}
use Rattle.flow_played.proofs.plain.a_network_without_own_components_tells_as_it_is.Goals as goal

pub returns-clause-told : goal.returns-clause-told
returns-clause-told g c = told-replaced other_at

pub returns-clause-in_place : goal.returns-clause-in_place
returns-clause-in_place g c = λ s p. replaced-at other_at s.kept.processes p
