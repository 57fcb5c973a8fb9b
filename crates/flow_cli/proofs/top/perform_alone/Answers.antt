use Rattle.std.proofs.Common.{Ok, ℕ, sym, subst}
use Rattle.flow_cli.specs.Live.{AnyNet}
use Rattle.flow_cli.specs.Begins.{Begins}
use Rattle.flow_cli.specs.Engines.{RanBy}
use Rattle.flow_cli.specs.declared.begin.Begun.{Begun}
use Rattle.flow_cli.proofs.Beginnings.{alone-workers, some-offer, way-of}
use Rattle.flow_cli.proofs.Overs.{no-memory-to}
use Rattle.flow_cli.proofs.top.perform_alone.Goals as goal

pub over-requires : goal.over-requires
over-requires g c =
    let o = g.F.Edge.outside c.args.shelf.now in
    let a = g.F.Edge.outside c.begin.new.shelf in
    let words = c.args.words.now in
    let running = c.in-Ok-Running.running in
    let net = c.in-Ok-Running.net in
    let offer = some-offer c.args.kinds.now c.args.parts.items c.requires.parts in
    let way = way-of offer.0 c.args.kinds.now o a words running net offer.1.kinds_are (subst (λ (b : Begun AnyNet). Begins offer.0 o a words (Ok b)) c.in-Ok-Running.field-0-is (c.in-Ok-Running.ensures offer.0 offer.1)) in
    (o, a, words, net, way, subst (λ (n : ℕ). RanBy n net c.in-Ok.worked) (sym (alone-workers c.args.kinds.now o a words running.plan running.goal net way c.requires.alone)) c.in-Ok.ensures)

pub returns-in-Ok : goal.returns-in-Ok
returns-in-Ok g c = λ own offered.
    let o = g.F.Edge.outside c.args.shelf.now in
    let a = g.F.Edge.outside c.begin.new.shelf in
    let words = c.args.words.now in
    let running = c.in-Ok-Running.running in
    let net = c.in-Ok-Running.net in
    let way = way-of own c.args.kinds.now o a words running net offered.kinds_are (subst (λ (b : Begun AnyNet). Begins own o a words (Ok b)) c.in-Ok-Running.field-0-is (c.in-Ok-Running.ensures own offered)) in
    c.over.ensures own o a words net offered.kinds_are way (subst (λ (n : ℕ). RanBy n net c.in-Ok.worked) (sym (alone-workers c.args.kinds.now o a words running.plan running.goal net way c.requires.alone)) c.in-Ok.ensures)

pub returns-in-Ok-Running : goal.returns-in-Ok-Running
returns-in-Ok-Running g c = λ own offered.
    let o = g.F.Edge.outside c.args.shelf.now in
    let a = g.F.Edge.outside c.begin.new.shelf in
    let words = c.args.words.now in
    let running = c.in-Ok-Running.running in
    let net = c.in-Ok-Running.net in
    no-memory-to own o a words running.plan running.goal net (subst (λ (b : Begun AnyNet). Begins own o a words (Ok b)) c.in-Ok-Running.field-0-is (c.in-Ok-Running.ensures own offered))

pub returns-in-Ok-Said : goal.returns-in-Ok-Said
returns-in-Ok-Said g c = λ own offered.
    let o = g.F.Edge.outside c.args.shelf.now in
    let a = g.F.Edge.outside c.begin.new.shelf in
    subst (λ (b : Begun AnyNet). Begins own o a c.args.words.now (Ok b)) c.in-Ok-Said.field-0-is (c.in-Ok-Said.ensures own offered)
