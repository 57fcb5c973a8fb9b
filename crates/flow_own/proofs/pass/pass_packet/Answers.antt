use Rattle.std.proofs.Common.{List, ℕ, Result, Bor, sym, subst}
use Rattle.std.proofs.lemmas.Result.{err_from_is_err_and}
use Rattle.flow_own.specs.Reading.{Tells}
use Rattle.flow_own.proofs.Passes.{packet_stops, packet_text}
use Rattle.flow_own.proofs.pass.pass_packet.Goals as goal

pub returns-in_err-size : goal.returns-in_err-size
returns-in_err-size c = λ kind.
    let p = err_from_is_err_and c.from_residual.result c.from_residual.ensures.1 in
    rw (p.1, p.2) (packet_stops c.in_err-size.field-0.0 kind c.args.bytes.now c.in_err-size.ensures)

pub returns : goal.returns
returns c = λ kind.
    let text = packet_text kind c.args.bytes.now c.in_ok-size.rest.now c.in_ok-size.size c.in_ok-size.ensures in
    subst (λ (r : Result (List ℕ) ℕ). Tells {X = Bor (List ℕ)} {Y = List ℕ} (λ rest. rest.now) c.pass_text.result r) (sym text) c.pass_text.ensures
