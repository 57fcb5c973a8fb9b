use Rattle.std.proofs.Common.{◌≡◌, ℕ, ◌++◌, ◌∷◌, [], ◌∙◌, ap}
use Rattle.std.proofs.lemmas.Result.{err_from_is_err_and}
use Rattle.flow_own.specs.Reading.{many_at, id_at}
use Rattle.flow_own.proofs.Many.{goes_on, stops_here, all_read}
use Rattle.flow_own.proofs.Passes.{may_stop}
use Rattle.flow_own.proofs.read.ids_of.Goals as goal

pub returns-in_err-id : goal.returns-in_err-id
returns-in_err-id c =
    let p = err_from_is_err_and c.from_residual.result c.from_residual.ensures.1 in
    rw (p.1, p.2) (stops_here id_at c.in_err-id.field-0.0 c.loop.ids.items c.args.count c.loop.counter c.loop.rest.now (many_at id_at c.args.count c.args.bytes.now) c.loop-test.true (may_stop c.in_err-id.field-0.0 (id_at c.loop.rest.now) c.in_err-id.ensures) c.loop.invariant)

pub loop-preserved : goal.loop-preserved
loop-preserved c =
    let more : c.push.new.self.items ≡ c.loop.ids.items ++ c.in_ok-id.id ∷ [] = c.in_ok-push.ensures.items ∙ ap (λ (n : ℕ). c.loop.ids.items ++ n ∷ []) c.of_number.ensures in
    rw more (goes_on id_at c.loop.ids.items c.args.count c.loop.counter c.loop.rest.now c.in_ok-id.id c.in_ok-id.after.now (many_at id_at c.args.count c.args.bytes.now) c.loop-test.true c.in_ok-id.ensures c.loop.invariant)

pub returns : goal.returns
returns c = all_read id_at c.loop.ids.items c.args.count c.loop.counter c.loop.rest.now (many_at id_at c.args.count c.args.bytes.now) c.loop-test.false c.loop.invariant
