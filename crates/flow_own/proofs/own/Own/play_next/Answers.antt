use Rattle.std.proofs.Common.{rules, ◌≡◌, List, Some, None, ℕ, subst, sym}
use Rattle.flow_component.specs.Resumes.{Resumes}
use Rattle.flow_own.specs.Tapes.{OwnValue, OwnNext, own_state, result_by}
use Rattle.flow_own.proofs.Players.{plays-resumes, moved}
use Rattle.flow_own.proofs.own.Own.play_next.Goals as goal

pub returns-clause-resumes : goal.returns-clause-resumes
returns-clause-resumes g c =
    let own : List ℕ → OwnValue = λ used. record { part = None; place = c.self.inside.place; tape = c.self.inside.tape; shape = c.self.inside.shape; used = used } in
    let at : c.self.inside.place ≡ Some c.args.place = search rules in
    let r = plays-resumes (own c.as_slice.result.now) c.args.place c.args.hands.now c.play.new.hands c.args.answer c.in_ok-end.end at c.in_ok-end.ensures.plays in
    let P : List ℕ → Type 0 = λ used. Resumes OwnNext (own_state (own used)) c.args.hands.now c.args.answer (result_by c.in_ok-end.end) (moved (own used) c.args.place) c.play.new.hands in
    let s : P c.self.inside.used = subst P c.as_slice.ensures r in
    rw (sym c.self.view_is, c.result_of.ensures, c.in_ok-end.ensures.same) s
