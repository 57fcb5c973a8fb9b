use Rattle.flow_model.proofs.Replacing.{replaced-leads}
use Rattle.flow_own.specs.Mixed.{mixed_rules}
use Rattle.flow_played.specs.Rules.{played_rules}
use Rattle.flow_played.specs.Played.{played_by}
use Rattle.flow_played.proofs.Mimicry.{IsBehind, mimics, behind}
use Rattle.flow_played.proofs.laws.a_run_is_one_of_its_players.Goals as goal

pub returns : goal.returns
returns g c = λ tapes journal s s' each leads.
    let rules = g.K.Component.rules in
    replaced-leads (mixed_rules rules) (played_rules rules) (IsBehind tapes) (played_by tapes) (mimics rules tapes) journal s s' leads (λ p x there. behind rules tapes p x.component (each p x there))
