-- Players come to one outcome.
use Rattle.std.proofs.Common.{◌≡◌, ℕ, Option, Some, None, refl, sym, ◌∙◌, ap}
use Rattle.flow_packet.specs.Held.{Held}
use Rattle.flow_component.specs.declared.Answer.{Answer}
use Rattle.flow_component.specs.Laws.{Rules, Outcome}
use Rattle.flow_component.specs.Outcomes.{outcome_as}
use Rattle.flow_own.specs.Tapes.{OwnValue, NextAs}
use Rattle.flow_own.specs.Mixed.{Mixed, Other, Own, MixedNext}
use Rattle.flow_played.specs.Rules.{IsPlayer, PlayersAreFunctions}

-- what a player at a place comes to is told by the next entry alone
one-at : (place : Option ℕ) (own : OwnValue) (held : Held) (answer : Answer) (a b : Outcome OwnValue) → own.place ≡ place → IsPlayer own → NextAs place own held answer a → NextAs place own held answer b → a ≡ b
one-at None own held answer a b is player x y = let p = player.placed in absurd cc
one-at (Some place) own held answer a b is player x y = x ∙ sym y

-- Players come to at most one outcome where all other components do.
pub players-are-functions : {K : Type 0} (rules : Rules K) → PlayersAreFunctions rules
players-are-functions {K} rules one (Other component) held answer a b x y =
    let m : MixedNext rules (Other component) held answer a = x.1 in
    let n : MixedNext rules (Other component) held answer b = y.1 in
    m.2 ∙ ap {B = Outcome (Mixed K)} (outcome_as Other) (one component held answer m.0 n.0 m.1 n.1) ∙ sym n.2
players-are-functions {K} rules one (Own own) held answer a b x y =
    let m : MixedNext rules (Own own) held answer a = x.1 in
    let n : MixedNext rules (Own own) held answer b = y.1 in
    m.2 ∙ ap {B = Outcome (Mixed K)} (outcome_as Own) (one-at own.place own held answer m.0 n.0 refl x.0 m.1 n.1) ∙ sym n.2
