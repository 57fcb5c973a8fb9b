use Rattle.std.proofs.Common.{◌≡◌, ◌∙◌, sym, ap, refl, List, Some, slice_get, get_or, arith, length}
use Rattle.std.proofs.lemmas.Option.{slice_get-get_or}
use Rattle.flow_model.specs.Stands.{ChannelShown}
use Rattle.flow_machine.specs.Values.{BodyValue, net_of}
use Rattle.flow_machine.specs.Nets.{asks_level}
use Rattle.flow_machine.specs.declared.answers.Case.TheVariants as cases
use Rattle.flow_machine.proofs.Lists.{read-there}
use Rattle.flow_machine.proofs.AtCases.{at-place, thought-at, room-at, learned-net}
use Rattle.flow_machine.proofs.NetTurns.{case-is, if_some, set-same}
use Rattle.flow_machine.proofs.FitLemmas.{level-fits}
use Rattle.flow_machine.proofs.BlockLemmas.{asks-case, within-both}
use Rattle.flow_machine.proofs.net.levels.seen_of.Goals as goal

pub case-requires-clause-whole : goal.case-requires-clause-whole
case-requires-clause-whole g c =
    c.requires.fit.whole c.args.process (get_or c.args.bodies.now c.args.process c.index-bodies-process.result) (slice_get-get_or _ _ _ c.requires.in_range)

pub case-requires-clause-thought : goal.case-requires-clause-thought
case-requires-clause-thought g c =
    thought-at (net_of c.args.bodies.now c.args.channels.now) c.args.process (get_or c.args.bodies.now c.args.process c.index-bodies-process.result) (slice_get-get_or _ _ _ c.requires.in_range) c.requires.set

pub unreachable-requires : goal.unreachable-requires
unreachable-requires g c =
    let asks = if_some (slice_get c.args.bodies.now c.args.process) (λ (x : BodyValue g.row.K.Denot). asks_level x.process.stage) (get_or c.args.bodies.now c.args.process c.index-bodies-process.result) (slice_get-get_or _ _ _ c.requires.in_range) c.requires.asks in
    let case = asks-case (get_or c.args.bodies.now c.args.process c.index-bodies-process.result).process c.case.result asks (case-is (get_or c.args.bodies.now c.args.process c.index-bodies-process.result).process c.case.result c.case.ensures) in
    c.in_default.not-Level case.0 case.1 case.2

pub bounds-channels-connection : goal.bounds-channels-connection
bounds-channels-connection g c =
    let at = at-place g.K.Component.rules c.args.bodies.now c.args.channels.now c.args.process (cases.Level c.in-Level.connection c.in-Level.port) c.index-bodies-process.result c.requires.fit c.requires.in_range c.in-Level.ensures in
    (c.requires.fit.wired c.args.process (get_or c.args.bodies.now c.args.process c.index-bodies-process.result) at.there).outputs c.in-Level.port.0 c.in-Level.connection at.is.1

pub learn-requires-clause-room : goal.learn-requires-clause-room
learn-requires-clause-room g c =
    let at = at-place g.K.Component.rules c.args.bodies.now c.args.channels.now c.args.process (cases.Level c.in-Level.connection c.in-Level.port) c.index-bodies-process.result c.requires.fit c.requires.in_range c.in-Level.ensures in
    room-at (net_of c.args.bodies.now c.args.channels.now) c.args.process (get_or c.args.bodies.now c.args.process c.index-bodies-process.result) _ at.there c.requires.set at.is.0

pub learn-requires-clause-effect : goal.learn-requires-clause-effect
learn-requires-clause-effect g c =
    let at = at-place g.K.Component.rules c.args.bodies.now c.args.channels.now c.args.process (cases.Level c.in-Level.connection c.in-Level.port) c.index-bodies-process.result c.requires.fit c.requires.in_range c.in-Level.ensures in
    let ch : ChannelShown = c.index-channels-connection.result in
    let at_c : slice_get c.args.channels.now c.in-Level.connection ≡ Some ch = read-there c.args.channels.now c.in-Level.connection ch ((c.requires.fit.wired c.args.process (get_or c.args.bodies.now c.args.process c.index-bodies-process.result) at.there).outputs c.in-Level.port.0 c.in-Level.connection at.is.1) c.index-channels-connection.is in
    let lies = within-both (length ch.packets) c.args.level ch.capacity (sym c.allows.ensures ∙ c.if-not-allows.false) in
    (at.whole, (c.in-Level.port, at.is.0), omega (arith, lies.1, (level-fits g.K.Component.rules (net_of c.args.bodies.now c.args.channels.now) c.in-Level.connection ch c.requires.fit at_c).1))

pub returns-then-not-allows : goal.returns-then-not-allows
returns-then-not-allows g c =
    let at = at-place g.K.Component.rules c.args.bodies.now c.args.channels.now c.args.process (cases.Level c.in-Level.connection c.in-Level.port) c.index-bodies-process.result c.requires.fit c.requires.in_range c.in-Level.ensures in
    let ch : ChannelShown = c.index-channels-connection.result in
    let at_c : slice_get c.args.channels.now c.in-Level.connection ≡ Some ch = read-there c.args.channels.now c.in-Level.connection ch ((c.requires.fit.wired c.args.process (get_or c.args.bodies.now c.args.process c.index-bodies-process.result) at.there).outputs c.in-Level.port.0 c.in-Level.connection at.is.1) c.index-channels-connection.is in
    (record { body = (get_or c.args.bodies.now c.args.process c.index-bodies-process.result); port = c.in-Level.port; connection = c.in-Level.connection; channel = ch; there = at.there; asks = at.is.0; output = at.is.1; at = at_c; outside = sym c.allows.ensures ∙ c.if-not-allows.true }, ap (λ (bs : List (BodyValue g.row.K.Denot)). net_of bs c.args.channels.now) (set-same c.args.bodies.now c.args.process (get_or c.args.bodies.now c.args.process c.index-bodies-process.result) at.there))

pub returns : goal.returns
returns g c =
    let at = at-place g.K.Component.rules c.args.bodies.now c.args.channels.now c.args.process (cases.Level c.in-Level.connection c.in-Level.port) c.index-bodies-process.result c.requires.fit c.requires.in_range c.in-Level.ensures in
    let ch : ChannelShown = c.index-channels-connection.result in
    let at_c : slice_get c.args.channels.now c.in-Level.connection ≡ Some ch = read-there c.args.channels.now c.in-Level.connection ch ((c.requires.fit.wired c.args.process (get_or c.args.bodies.now c.args.process c.index-bodies-process.result) at.there).outputs c.in-Level.port.0 c.in-Level.connection at.is.1) c.index-channels-connection.is in
    let lies = within-both (length ch.packets) c.args.level ch.capacity (sym c.allows.ensures ∙ c.if-not-allows.false) in
    (refl, learned-net c.args.bodies.now c.args.channels.now c.args.process c.args.stamp (get_or c.args.bodies.now c.args.process c.index-bodies-process.result) c.learn.new.self c.args.level c.in-Level.connection c.in-Level.port ch at at_c lies.0 lies.1 c.learn.ensures)
