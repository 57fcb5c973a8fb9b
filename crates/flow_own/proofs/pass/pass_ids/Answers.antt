use Rattle.std.proofs.lemmas.Result.{err_from_is_err_and}
use Rattle.flow_own.specs.Reading.{behind, many_at, id_at}
use Rattle.flow_own.proofs.Many.{passes-on, all_passed}
use Rattle.flow_own.proofs.Passes.{many_stop}
use Rattle.flow_own.proofs.pass.pass_ids.Goals as goal

pub returns-in_err-after : goal.returns-in_err-after
returns-in_err-after c =
    let p = err_from_is_err_and c.from_residual.result c.from_residual.ensures.1 in
    rw (p.1, p.2) (many_stop id_at c.in_err-after.field-0.0 c.args.count c.loop.counter c.loop.rest.now (behind (many_at id_at c.args.count c.args.bytes.now)) c.loop-test.true c.in_err-after.ensures c.loop.invariant)

pub loop-preserved : goal.loop-preserved
loop-preserved c = passes-on id_at c.args.count c.loop.counter c.loop.rest.now c.in_ok-after.field-0-0 c.in_ok-after.after.now (behind (many_at id_at c.args.count c.args.bytes.now)) c.loop-test.true c.in_ok-after.ensures c.loop.invariant

pub returns : goal.returns
returns c = all_passed id_at c.args.count c.loop.counter c.loop.rest.now (behind (many_at id_at c.args.count c.args.bytes.now)) c.loop-test.false c.loop.invariant
