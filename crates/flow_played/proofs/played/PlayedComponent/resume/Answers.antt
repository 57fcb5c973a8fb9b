use Rattle.std.proofs.Common.{sym, subst}
use Rattle.flow_own.specs.declared.mixed.Mix.{Mix}
use Rattle.flow_own.specs.Mixed.{Other, mixed_of}
use Rattle.flow_own.specs.MixedLaws.{other_resumes}
use Rattle.flow_played.specs.Rules.{IsPlayer, IsPlayed}
use Rattle.flow_played.specs.RulesLaws.{played_resumes, player-resumed, ended-player, untold}
use Rattle.flow_played.proofs.played.PlayedComponent.resume.Goals as goal

pub returns-in-Other : goal.returns-in-Other
returns-in-Other g c =
    let S = g.K.Component.state_of in
    let R = g.K.Component.rules in
    rw (sym c.self.view_is, c.in-Other.is) (
    played_resumes R (Other (S c.in-Other.component)) (Other (S c.resume.new.self)) c.args.hands.now c.resume.new.hands c.args.answer c.resume.result tt
    (other_resumes R (S c.in-Other.component) (S c.resume.new.self) c.args.hands.now c.resume.new.hands c.args.answer c.resume.result c.resume.ensures))

pub invariant_of-self-in-Own : goal.invariant_of-self-in-Own
invariant_of-self-in-Own g c =
    let is : IsPlayer c.in-Own.own = subst (λ (m : Mix _ _). IsPlayed (mixed_of m)) c.in-Own.is c.self.invariant in
    player-resumed c.in-Own.own c.resume-in-Own.new.self c.args.hands.now c.resume-in-Own.new.hands c.args.answer c.resume-in-Own.result (ended-player c.in-Own.own is)
    (c.resume-in-Own.ensures.told (untold c.in-Own.own is)) c.resume-in-Own.ensures.resumes
