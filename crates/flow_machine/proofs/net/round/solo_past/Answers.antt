use Rattle.std.proofs.Common.{◌≡◌, ℕ, List, [], ◌∷◌, ◌++◌, ◌∙◌, ap, sym, subst}
use Rattle.flow_machine.specs.Solo.{StopsAt}
use Rattle.flow_machine.proofs.Reaching.{reach-none}
use Rattle.flow_machine.proofs.Told.{all-told}
use Rattle.flow_machine.proofs.net.round.solo_past.Goals as goal

pub returns-in-Err-clause-reaches : goal.returns-in-Err-clause-reaches
returns-in-Err-clause-reaches g c = c.in-Err.ensures.reaches

pub returns-in-Err-clause-stops : goal.returns-in-Err-clause-stops
returns-in-Err-clause-stops g c =
    let pushed = rw c.unwrap.ensures at c.push.ensures.items in
    let items : c.push.new.self.items ≡ c.in-Err.process ∷ [] = pushed ∙ ap (λ (xs : List ℕ). xs ++ c.in-Err.process ∷ []) c.in-Ok.ensures.items in
    subst (λ (ps : List ℕ). StopsAt c.args.net c.go_round.new.self ps) (sym items) c.in-Err.ensures.starved

pub returns-in_default-clause-reaches : goal.returns-in_default-clause-reaches
returns-in_default-clause-reaches g c = reach-none g.K.Component.rules g.met.K.Component.lawful c.args.net

pub returns-in-Ok-go_round-clause-ended_are_told : goal.returns-in-Ok-go_round-clause-ended_are_told
returns-in-Ok-go_round-clause-ended_are_told g c = all-told c.go_round.new.self c.in-Ok-go_round.ensures.set
