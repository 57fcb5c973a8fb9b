use Rattle.std.proofs.Common.{◌-◌, length, rules, arith}
use Rattle.flow_text.proofs.Pieces.{untouched}
use Rattle.flow_load.proofs.Fronts.{front-more, front-ended, front-failed, front-full}
use Rattle.flow_load.proofs.front.read_front.Goals as goal

pub returns : goal.returns
returns g c =
    front-full (g.S.Edge.outside c.args.source.now) (g.S.Edge.outside c.loop-count.source) c.loop-count.count c.loop-count.front c.loop-count.invariant.took (omega arith) (omega arith)

pub loop-count-init : goal.loop-count-init
loop-count-init g c = record { within = omega arith; took = untouched (g.S.Edge.outside c.args.source.now) }

pub loop-count-preserved : goal.loop-count-preserved
loop-count-preserved g c =
    let xs = c.loop-count.front in
    let ys = c.read.new.buf in
    record {
      within = search rules;
      took = front-more (g.S.Edge.outside c.args.source.now) (g.S.Edge.outside c.loop-count.source) (g.S.Edge.outside c.read.new.self) c.loop-count.count c.in-Ok.n (length xs - c.loop-count.count) xs ys
          c.loop-count.invariant.took c.in-Ok.ensures.reads (omega arith) (search rules) c.in-Ok.n-test.1;
    }

pub returns-in-Ok-eq0 : goal.returns-in-Ok-eq0
returns-in-Ok-eq0 g c =
    let xs = c.loop-count.front in
    let ys = c.read.new.buf in
    front-ended (g.S.Edge.outside c.args.source.now) (g.S.Edge.outside c.loop-count.source) (g.S.Edge.outside c.read.new.self) c.loop-count.count c.in-Ok-eq0.field-0 (length xs - c.loop-count.count) xs ys
    c.loop-count.invariant.took c.in-Ok-eq0.ensures.reads (omega arith) (search rules) c.in-Ok-eq0.field-0-test (search rules)

pub returns-in-Err : goal.returns-in-Err
returns-in-Err g c =
    front-failed (g.S.Edge.outside c.args.source.now) (g.S.Edge.outside c.loop-count.source) (g.S.Edge.outside c.read.new.self) c.loop-count.count c.loop-count.front c.read.new.buf c.in-Err.field-0
    c.loop-count.invariant.took c.in-Err.ensures.reads
