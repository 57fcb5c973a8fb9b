use Rattle.std.proofs.Common.{sym}
use Rattle.flow_own.specs.MixedLaws.{other_resumes}
use Rattle.flow_own.proofs.unmixed.UnmixedComponent.resume.Goals as goal

pub returns : goal.returns
returns g c =
    let S = g.K.Component.state_of in
    rw (sym c.self.view_is) (
    other_resumes g.K.Component.rules (S c.self.inside.component) (S c.resume.new.self) c.args.hands.now c.resume.new.hands c.args.answer c.resume.result c.resume.ensures)
