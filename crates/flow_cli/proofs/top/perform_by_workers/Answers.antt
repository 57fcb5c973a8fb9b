use Rattle.std.proofs.Common.{Ok, ℕ, ◌≤◌, sym, subst}
use Rattle.flow_limits.specs.declared.TheConstants.{WORKER_LIMIT}
use Rattle.flow_cli.specs.Live.{AnyNet}
use Rattle.flow_cli.specs.Begins.{Begins}
use Rattle.flow_cli.specs.Engines.{RanBy}
use Rattle.flow_cli.specs.declared.begin.Begun.{Begun}
use Rattle.flow_cli.proofs.Beginnings.{some-offer, some-workers, way-of}
use Rattle.flow_cli.proofs.Overs.{no-memory-to}
use Rattle.flow_cli.proofs.top.perform_by_workers.Goals as goal

pub over-requires : goal.over-requires
over-requires g c =
    let o = g.F.Edge.outside c.args.shelf.now in
    let a = g.F.Edge.outside c.begin.new.shelf in
    let words = c.args.words.now in
    let running = c.in-Ok-Running.running in
    let net = c.in-Ok-Running.net in
    let offer = some-offer c.args.kinds.now c.args.parts.items c.requires.parts in
    let way = way-of offer.0 c.args.kinds.now o a words running net offer.1.kinds_are (subst (λ (b : Begun AnyNet). Begins offer.0 o a words (Ok b)) c.in-Ok-Running.field-0-is (c.in-Ok-Running.ensures offer.0 offer.1)) in
    (o, a, words, net, way, subst (λ (n : ℕ). RanBy n net c.in-Ok.worked) c.workers.ensures c.in-Ok.ensures)

pub returns-in-Ok : goal.returns-in-Ok
returns-in-Ok g c = λ own offered.
    let o = g.F.Edge.outside c.args.shelf.now in
    let a = g.F.Edge.outside c.begin.new.shelf in
    let words = c.args.words.now in
    let running = c.in-Ok-Running.running in
    let net = c.in-Ok-Running.net in
    let way = way-of own c.args.kinds.now o a words running net offered.kinds_are (subst (λ (b : Begun AnyNet). Begins own o a words (Ok b)) c.in-Ok-Running.field-0-is (c.in-Ok-Running.ensures own offered)) in
    c.over.ensures own o a words net offered.kinds_are way (subst (λ (n : ℕ). RanBy n net c.in-Ok.worked) c.workers.ensures c.in-Ok.ensures)

pub returns-in-Ok-Running : goal.returns-in-Ok-Running
returns-in-Ok-Running g c = λ own offered.
    let o = g.F.Edge.outside c.args.shelf.now in
    let a = g.F.Edge.outside c.begin.new.shelf in
    let words = c.args.words.now in
    let running = c.in-Ok-Running.running in
    let net = c.in-Ok-Running.net in
    no-memory-to own o a words running.plan running.goal net (subst (λ (b : Begun AnyNet). Begins own o a words (Ok b)) c.in-Ok-Running.field-0-is (c.in-Ok-Running.ensures own offered))

pub returns-in-Ok-Said : goal.returns-in-Ok-Said
returns-in-Ok-Said g c = λ own offered.
    let o = g.F.Edge.outside c.args.shelf.now in
    let a = g.F.Edge.outside c.begin.new.shelf in
    subst (λ (b : Begun AnyNet). Begins own o a c.args.words.now (Ok b)) c.in-Ok-Said.field-0-is (c.in-Ok-Said.ensures own offered)

pub run_by_workers-requires-clause-least : goal.run_by_workers-requires-clause-least
run_by_workers-requires-clause-least g c κs within =
    let o = g.F.Edge.outside c.args.shelf.now in
    let a = g.F.Edge.outside c.begin.new.shelf in
    let words = c.args.words.now in
    let running = c.in-Ok-Running.running in
    let net = c.in-Ok-Running.net in
    let offer = some-offer c.args.kinds.now c.args.parts.items c.requires.parts in
    let some = some-workers _ o a words running.plan running.goal net (subst (λ (b : Begun AnyNet). Begins offer.0 o a words (Ok b)) c.in-Ok-Running.field-0-is (c.in-Ok-Running.ensures offer.0 offer.1)) c.requires.workers in
    subst (λ (n : ℕ). 1 ≤ n) (sym c.workers.ensures) some.0

pub run_by_workers-requires-clause-most : goal.run_by_workers-requires-clause-most
run_by_workers-requires-clause-most g c κs within =
    let o = g.F.Edge.outside c.args.shelf.now in
    let a = g.F.Edge.outside c.begin.new.shelf in
    let words = c.args.words.now in
    let running = c.in-Ok-Running.running in
    let net = c.in-Ok-Running.net in
    let offer = some-offer c.args.kinds.now c.args.parts.items c.requires.parts in
    let some = some-workers _ o a words running.plan running.goal net (subst (λ (b : Begun AnyNet). Begins offer.0 o a words (Ok b)) c.in-Ok-Running.field-0-is (c.in-Ok-Running.ensures offer.0 offer.1)) c.requires.workers in
    subst (λ (n : ℕ). n ≤ WORKER_LIMIT) (sym c.workers.ensures) some.1
