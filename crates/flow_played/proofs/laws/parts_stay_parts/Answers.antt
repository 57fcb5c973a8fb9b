use Rattle.flow_own.specs.Mixed.{mixed_rules}
use Rattle.flow_played.specs.Kept.{IsPart}
use Rattle.flow_played.proofs.Kept.{parts-stay}
use Rattle.flow_played.proofs.Throughout.{leads-throughout}
use Rattle.flow_played.proofs.laws.parts_stay_parts.Goals as goal

pub returns : goal.returns
returns g c = λ journal s s' each leads. leads-throughout (mixed_rules g.K.Component.rules) (λ p. IsPart) (parts-stay g.K.Component.rules) s journal.turns journal.seen s' leads each
