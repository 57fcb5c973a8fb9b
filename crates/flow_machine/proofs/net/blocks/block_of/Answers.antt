use Rattle.std.proofs.Common.{◌≡◌, ◌∙◌, sym, ap, ◌<◌, length, Some, slice_get}
use Rattle.flow_model.specs.declared.Block.TheVariants as blocks
use Rattle.flow_model.specs.Stages.{IsThoughtStage}
use Rattle.flow_model.specs.Events.{received, sent, idle_event, stage_event}
use Rattle.flow_model.specs.Verdicts.{exact_level, waits_for}
use Rattle.flow_model.specs.Stands.{ChannelShown, look_shown}
use Rattle.flow_machine.specs.Values.{BodyValue, net_of}
use Rattle.flow_machine.proofs.Lists.{read-there}
use Rattle.flow_machine.proofs.AtCases.{at-case}
use Rattle.flow_machine.specs.Nets.{packet_wished, looks_of}
use Rattle.flow_machine.specs.declared.answers.Case.TheVariants as cases
use Rattle.flow_machine.proofs.NetTurns.{if_some, receives, waits-receive, sends, waits-send}
use Rattle.flow_machine.proofs.BlockLemmas.{block-there, waits-none, block-event, waits-initial, waits-level, waits-deactivate, waits-close, waits-over, wished-there, sends-full}
use Rattle.flow_machine.proofs.net.blocks.block_of.Goals as goal

pub case-requires-clause-whole : goal.case-requires-clause-whole
case-requires-clause-whole g c =
    c.requires.fit.whole c.args.process c.index-bodies-process.result (read-there c.args.bodies.now c.args.process c.index-bodies-process.result c.requires.in_range c.index-bodies-process.is)

pub case-requires-clause-thought : goal.case-requires-clause-thought
case-requires-clause-thought g c =
    if_some (slice_get c.args.bodies.now c.args.process) (λ (x : BodyValue g.row.K.Denot). IsThoughtStage x.process.stage) c.index-bodies-process.result (read-there c.args.bodies.now c.args.process c.index-bodies-process.result c.requires.in_range c.index-bodies-process.is) c.requires.thought

pub bounds-channels-connection : goal.bounds-channels-connection
bounds-channels-connection g c =
    let at = at-case g.K.Component.rules (net_of c.args.bodies.now c.args.channels.now) c.args.process (cases.Receive c.in-Receive.connection c.in-Receive.port) c.index-bodies-process.result c.requires.fit (read-there c.args.bodies.now c.args.process c.index-bodies-process.result c.requires.in_range c.index-bodies-process.is) c.in-Receive.ensures in
    (c.requires.fit.wired c.args.process c.index-bodies-process.result at.there).inputs c.in-Receive.port.0 c.in-Receive.connection at.is.1

pub bounds-channels-connection-in-Send : goal.bounds-channels-connection-in-Send
bounds-channels-connection-in-Send g c =
    let at = at-case g.K.Component.rules (net_of c.args.bodies.now c.args.channels.now) c.args.process (cases.Send c.in-Send.connection c.in-Send.port) c.index-bodies-process.result c.requires.fit (read-there c.args.bodies.now c.args.process c.index-bodies-process.result c.requires.in_range c.index-bodies-process.is) c.in-Send.ensures in
    (c.requires.fit.wired c.args.process c.index-bodies-process.result at.there).outputs c.in-Send.port.0 c.in-Send.connection at.is.2

pub returns-in-Idle : goal.returns-in-Idle
returns-in-Idle g c =
    let at = at-case g.K.Component.rules (net_of c.args.bodies.now c.args.channels.now) c.args.process (cases.Idle) c.index-bodies-process.result c.requires.fit (read-there c.args.bodies.now c.args.process c.index-bodies-process.result c.requires.in_range c.index-bodies-process.is) c.in-Idle.ensures in
    c.dormant.ensures ∙ sym (block-there (net_of c.args.bodies.now c.args.channels.now) c.args.process c.index-bodies-process.result at.there ∙ block-event (looks_of c.args.channels.now) c.index-bodies-process.result.process (idle_event (looks_of c.args.channels.now) c.index-bodies-process.result.process) blocks.Dormant
    (ap (stage_event (looks_of c.args.channels.now) c.index-bodies-process.result.process (exact_level (looks_of c.args.channels.now) c.index-bodies-process.result.process)) at.is) (ap (waits_for c.index-bodies-process.result.process) at.is))

pub returns-in-Receive : goal.returns-in-Receive
returns-in-Receive g c =
    let at = at-case g.K.Component.rules (net_of c.args.bodies.now c.args.channels.now) c.args.process (cases.Receive c.in-Receive.connection c.in-Receive.port) c.index-bodies-process.result c.requires.fit (read-there c.args.bodies.now c.args.process c.index-bodies-process.result c.requires.in_range c.index-bodies-process.is) c.in-Receive.ensures in
    let within : c.in-Receive.connection < length c.args.channels.now = (c.requires.fit.wired c.args.process c.index-bodies-process.result at.there).inputs c.in-Receive.port.0 c.in-Receive.connection at.is.1 in
    let ch : ChannelShown = c.index-channels-connection.result in
    let at_c : slice_get c.args.channels.now c.in-Receive.connection ≡ Some ch = read-there c.args.channels.now c.in-Receive.connection ch within c.index-channels-connection.is in
    let n = exact_level (looks_of c.args.channels.now) c.index-bodies-process.result.process in
    c.empty.ensures ∙ sym (block-there (net_of c.args.bodies.now c.args.channels.now) c.args.process c.index-bodies-process.result at.there ∙ block-event (looks_of c.args.channels.now) c.index-bodies-process.result.process (received c.in-Receive.port.0 c.in-Receive.connection ch.packets ch.open_senders) (blocks.Empty c.in-Receive.connection c.in-Receive.port)
    (receives c.args.channels.now c.index-bodies-process.result.process n c.in-Receive.connection c.in-Receive.port ch at.is.0 at.is.1 at_c) (waits-receive c.index-bodies-process.result.process c.in-Receive.port c.in-Receive.connection at.is.0 at.is.1))

pub returns-in-Send : goal.returns-in-Send
returns-in-Send g c =
    let at = at-case g.K.Component.rules (net_of c.args.bodies.now c.args.channels.now) c.args.process (cases.Send c.in-Send.connection c.in-Send.port) c.index-bodies-process.result c.requires.fit (read-there c.args.bodies.now c.args.process c.index-bodies-process.result c.requires.in_range c.index-bodies-process.is) c.in-Send.ensures in
    let within : c.in-Send.connection < length c.args.channels.now = (c.requires.fit.wired c.args.process c.index-bodies-process.result at.there).outputs c.in-Send.port.0 c.in-Send.connection at.is.2 in
    let ch : ChannelShown = c.index-channels-connection-in-Send.result in
    let at_c : slice_get c.args.channels.now c.in-Send.connection ≡ Some ch = read-there c.args.channels.now c.in-Send.connection ch within c.index-channels-connection-in-Send.is in
    let n = exact_level (looks_of c.args.channels.now) c.index-bodies-process.result.process in
    let wished = wished-there g.K.Component.rules (net_of c.args.bodies.now c.args.channels.now) c.args.process c.index-bodies-process.result c.in-Send.port at.is.0 c.requires.fit at.there at.is.1 in
    c.full.ensures ∙ sym (block-there (net_of c.args.bodies.now c.args.channels.now) c.args.process c.index-bodies-process.result at.there ∙ block-event (looks_of c.args.channels.now) c.index-bodies-process.result.process (sent c.in-Send.port.0 c.in-Send.connection (packet_wished c.index-bodies-process.result.process) (Some (look_shown ch))) (blocks.Full c.in-Send.connection c.in-Send.port)
    (sends c.args.channels.now c.index-bodies-process.result.process n c.in-Send.connection c.in-Send.port at.is.0 ch at.is.1 at.is.2 at_c) (waits-send c.index-bodies-process.result.process c.in-Send.port at.is.0 c.in-Send.connection at.is.1 at.is.2)
    ∙ sends-full c.in-Send.port.0 c.in-Send.connection (packet_wished c.index-bodies-process.result.process) wished.0 ch (blocks.Full c.in-Send.connection c.in-Send.port) wished.1)

pub returns-in-Initial : goal.returns-in-Initial
returns-in-Initial g c =
    let at = at-case g.K.Component.rules (net_of c.args.bodies.now c.args.channels.now) c.args.process (cases.Initial c.in-Initial.field-0) c.index-bodies-process.result c.requires.fit (read-there c.args.bodies.now c.args.process c.index-bodies-process.result c.requires.in_range c.index-bodies-process.is) c.in-Initial.ensures in
    sym (block-there (net_of c.args.bodies.now c.args.channels.now) c.args.process c.index-bodies-process.result at.there ∙ waits-none (looks_of c.args.channels.now) c.index-bodies-process.result.process (waits-initial c.index-bodies-process.result.process c.in-Initial.field-0 at.is))

pub returns-in-Level : goal.returns-in-Level
returns-in-Level g c =
    let at = at-case g.K.Component.rules (net_of c.args.bodies.now c.args.channels.now) c.args.process (cases.Level c.in-Level.connection c.in-Level.port) c.index-bodies-process.result c.requires.fit (read-there c.args.bodies.now c.args.process c.index-bodies-process.result c.requires.in_range c.index-bodies-process.is) c.in-Level.ensures in
    sym (block-there (net_of c.args.bodies.now c.args.channels.now) c.args.process c.index-bodies-process.result at.there ∙ waits-none (looks_of c.args.channels.now) c.index-bodies-process.result.process (waits-level c.index-bodies-process.result.process c.in-Level.connection c.in-Level.port at.is))

pub returns-in-Deactivate : goal.returns-in-Deactivate
returns-in-Deactivate g c =
    let at = at-case g.K.Component.rules (net_of c.args.bodies.now c.args.channels.now) c.args.process (cases.Deactivate) c.index-bodies-process.result c.requires.fit (read-there c.args.bodies.now c.args.process c.index-bodies-process.result c.requires.in_range c.index-bodies-process.is) c.in-Deactivate.ensures in
    sym (block-there (net_of c.args.bodies.now c.args.channels.now) c.args.process c.index-bodies-process.result at.there ∙ waits-none (looks_of c.args.channels.now) c.index-bodies-process.result.process (waits-deactivate c.index-bodies-process.result.process at.is))

pub returns-in-Close : goal.returns-in-Close
returns-in-Close g c =
    let at = at-case g.K.Component.rules (net_of c.args.bodies.now c.args.channels.now) c.args.process (cases.Close c.in-Close.connection) c.index-bodies-process.result c.requires.fit (read-there c.args.bodies.now c.args.process c.index-bodies-process.result c.requires.in_range c.index-bodies-process.is) c.in-Close.ensures in
    sym (block-there (net_of c.args.bodies.now c.args.channels.now) c.args.process c.index-bodies-process.result at.there ∙ waits-none (looks_of c.args.channels.now) c.index-bodies-process.result.process (waits-close c.index-bodies-process.result.process c.in-Close.connection at.is))

pub returns-in-Over : goal.returns-in-Over
returns-in-Over g c =
    let at = at-case g.K.Component.rules (net_of c.args.bodies.now c.args.channels.now) c.args.process (cases.Over c.in-Over.field-0) c.index-bodies-process.result c.requires.fit (read-there c.args.bodies.now c.args.process c.index-bodies-process.result c.requires.in_range c.index-bodies-process.is) c.in-Over.ensures in
    sym (block-there (net_of c.args.bodies.now c.args.channels.now) c.args.process c.index-bodies-process.result at.there ∙ waits-none (looks_of c.args.channels.now) c.index-bodies-process.result.process (waits-over c.index-bodies-process.result.process c.in-Over.field-0 at.is))
