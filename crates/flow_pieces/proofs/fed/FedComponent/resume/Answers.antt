use Rattle.std.proofs.Common.{sym}
use Rattle.flow_pieces.specs.FedLaws.{other_resumes}
use Rattle.flow_pieces.proofs.fed.FedComponent.resume.Goals as goal

pub returns-in-Other : goal.returns-in-Other
returns-in-Other g c =
    let S = g.K.Component.state_of in
    rw (sym c.self.view_is, c.in-Other.is) (
    other_resumes g.K.Component.rules (S c.in-Other.component) (S c.resume-in-Other.new.self) c.args.hands.now c.resume-in-Other.new.hands c.args.answer c.resume-in-Other.result c.resume-in-Other.ensures)
