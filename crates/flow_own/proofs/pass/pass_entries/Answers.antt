use Rattle.std.proofs.lemmas.Result.{err_from_is_err_and}
use Rattle.flow_own.specs.Reading.{behind, many_at, entry_at}
use Rattle.flow_own.proofs.Many.{passes-on, all_passed}
use Rattle.flow_own.proofs.Passes.{passed, unpassed, many_stop}
use Rattle.flow_own.proofs.pass.pass_entries.Goals as goal

pub returns-in_err-after : goal.returns-in_err-after
returns-in_err-after c =
    let p = err_from_is_err_and c.from_residual.result c.from_residual.ensures.1 in
    let stop = c.in_err-after.field-0.0 in
    rw (p.1, p.2) (many_stop entry_at stop c.args.count c.loop.counter c.loop.rest.now (behind (many_at entry_at c.args.count c.args.bytes.now)) c.loop-test.true (unpassed stop (entry_at c.loop.rest.now) c.in_err-after.ensures) c.loop.invariant)

pub loop-preserved : goal.loop-preserved
loop-preserved c =
    let entry = passed (entry_at c.loop.rest.now) c.in_ok-after.after.now c.in_ok-after.ensures in
    passes-on entry_at c.args.count c.loop.counter c.loop.rest.now entry.0 c.in_ok-after.after.now (behind (many_at entry_at c.args.count c.args.bytes.now)) c.loop-test.true entry.1 c.loop.invariant

pub returns : goal.returns
returns c = all_passed entry_at c.args.count c.loop.counter c.loop.rest.now (behind (many_at entry_at c.args.count c.args.bytes.now)) c.loop-test.false c.loop.invariant
