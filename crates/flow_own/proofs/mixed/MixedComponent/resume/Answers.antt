use Rattle.std.proofs.Common.{sym}
use Rattle.flow_own.specs.Tapes.{own_state}
use Rattle.flow_own.specs.MixedLaws.{other_resumes, own_resumes}
use Rattle.flow_own.proofs.mixed.MixedComponent.resume.Goals as goal

pub returns-in-Other : goal.returns-in-Other
returns-in-Other g c =
    let S = g.K.Component.state_of in
    rw (sym c.self.view_is, c.in-Other.is) (
    other_resumes g.K.Component.rules (S c.in-Other.component) (S c.resume.new.self) c.args.hands.now c.resume.new.hands c.args.answer c.resume.result c.resume.ensures)

pub returns-in-Own : goal.returns-in-Own
returns-in-Own g c =
    rw (sym c.self.view_is, c.in-Own.is) (
    own_resumes g.K.Component.rules (own_state c.in-Own.own) (own_state c.resume-in-Own.new.self) c.args.hands.now c.resume-in-Own.new.hands c.args.answer c.resume-in-Own.result c.resume-in-Own.ensures.resumes)
