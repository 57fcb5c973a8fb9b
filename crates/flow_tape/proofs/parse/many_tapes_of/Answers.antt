use Rattle.std.proofs.Common.{◌≡◌, ◌++◌, ◌∷◌, []}
use Rattle.std.proofs.lemmas.Result.{err_from_is_err_and}
use Rattle.flow_own.specs.Reading.{many_at}
use Rattle.flow_tape.specs.Reading.{tape_at}
use Rattle.flow_own.proofs.Many.{goes_on, stops_here, all_read}
use Rattle.flow_tape.proofs.parse.many_tapes_of.Goals as goal

pub returns-in_err-tape : goal.returns-in_err-tape
returns-in_err-tape c =
    let p = err_from_is_err_and c.from_residual.result c.from_residual.ensures.1 in
    rw (p.1, p.2) (stops_here tape_at c.in_err-tape.field-0.0 c.loop.tapes.items c.args.count c.loop.counter c.loop.rest (many_at tape_at c.args.count c.args.bytes) c.loop-test.true c.in_err-tape.ensures c.loop.invariant)

pub loop-preserved : goal.loop-preserved
loop-preserved c =
    let more : c.push.new.self.items ≡ c.loop.tapes.items ++ c.in_ok-tape.tape ∷ [] = c.in_ok-push.ensures.items in
    rw more (goes_on tape_at c.loop.tapes.items c.args.count c.loop.counter c.loop.rest c.in_ok-tape.tape c.in_ok-tape.after (many_at tape_at c.args.count c.args.bytes) c.loop-test.true c.in_ok-tape.ensures c.loop.invariant)

pub returns : goal.returns
returns c = all_read tape_at c.loop.tapes.items c.args.count c.loop.counter c.loop.rest (many_at tape_at c.args.count c.args.bytes) c.loop-test.false c.loop.invariant
