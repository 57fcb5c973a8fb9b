use Rattle.std.proofs.Common.{[], inl, refl}
use Rattle.flow_words.specs.Words.{run_by, run_of}
use Rattle.flow_load.specs.Components.{contents_of}
use Rattle.flow_load.specs.Offers.{counts_of, parts_in}
use Rattle.flow_load.proofs.Befores.{on-file, inputs-stopped, parts-stopped, ready, run-ready, unmade}
use Rattle.flow_load.proofs.Ordering.{hold-theirs}
use Rattle.flow_load.proofs.before.runnable.Goals as goal

pub returns-in-Err-clause-reads : goal.returns-in-Err-clause-reads
returns-in-Err-clause-reads g c = λ own offered words recorded asks empty.
    c.in-Err.ensures words own recorded offered.kinds_are (on-file words (run_of (run_by c.args.asked)) c.args.asked.net.now refl asks) empty

pub returns-in-Err-parts_for-clause-reads : goal.returns-in-Err-parts_for-clause-reads
returns-in-Err-parts_for-clause-reads g c = λ own offered words recorded asks empty.
    let l = c.in-Ok.ensures in
    parts-stopped c.args.kinds.now (counts_of c.args.parts.items) (g.F.Edge.outside c.args.shelf.now) (g.F.Edge.outside c.load.new.shelf) (run_by c.args.asked) l.0 c.in-Ok.file.text c.in-Ok.file.plan l.1 l.2
    c.in-Err-parts_for.stop c.in-Err-parts_for.ensures.hands words own recorded offered.kinds_are offered.parts_are asks empty

pub returns-in-Err-read_inputs-clause-reads : goal.returns-in-Err-read_inputs-clause-reads
returns-in-Err-read_inputs-clause-reads g c = λ own offered words recorded asks empty.
    let l = c.in-Ok.ensures in
    inputs-stopped c.args.kinds.now (g.F.Edge.outside c.args.shelf.now) (g.F.Edge.outside c.load.new.shelf) (g.F.Edge.outside c.read_inputs.new.shelf) c.args.asked.net.now l.0 [] c.in-Ok.file.text c.in-Ok.file.plan l.1 l.2
    c.in-Err-read_inputs.stop c.in-Err-read_inputs.ensures words own recorded offered.kinds_are (on-file words (run_of (run_by c.args.asked)) c.args.asked.net.now refl asks)
    (inl (run_by c.args.asked, asks, refl)) empty

pub returns-in-Ok-live_components-clause-reads : goal.returns-in-Ok-live_components-clause-reads
returns-in-Ok-live_components-clause-reads g c = λ own offered.
    let l = c.in-Ok.ensures in
    let o = g.F.Edge.outside c.args.shelf.now in
    let n = g.F.Edge.outside c.read_inputs.new.shelf in
    let given = c.in-Ok-read_inputs.given in
    run-ready c.args.kinds.now own offered.kinds_are o n c.args.asked.net.now _ (contents_of given.items)
    (ready c.args.kinds.now o (g.F.Edge.outside c.load.new.shelf) n c.args.asked.net.now l.0 [] c.in-Ok.file.text c.in-Ok.file.plan l.1 l.2 given c.in-Ok-read_inputs.ensures) c.in-Ok-live_components.ensures.live

pub returns-in-Err-live_components-clause-reads : goal.returns-in-Err-live_components-clause-reads
returns-in-Err-live_components-clause-reads g c = λ own offered words recorded asks empty.
    let l = c.in-Ok.ensures in
    unmade c.args.kinds.now (g.F.Edge.outside c.args.shelf.now) (g.F.Edge.outside c.load.new.shelf) (g.F.Edge.outside c.read_inputs.new.shelf) c.args.asked.net.now l.0 [] c.in-Ok.file.text c.in-Ok.file.plan l.1 l.2
    c.in-Ok-read_inputs.given c.in-Ok-read_inputs.ensures words own recorded empty

pub returns-in-Ok-live_components-clause-parts : goal.returns-in-Ok-live_components-clause-parts
returns-in-Ok-live_components-clause-parts g c =
    hold-theirs g.P.Part.seen c.args.kinds.now (parts_in c.args.parts.items) c.in-Ok.file.plan c.in-Ok-parts_for.parts.items c.in-Ok-live_components.components.items c.in-Ok-parts_for.ensures.hands
    c.in-Ok-parts_for.ensures.order c.in-Ok-live_components.ensures.held
