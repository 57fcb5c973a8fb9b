use Rattle.std.proofs.Common.{◌≡◌, ◌∙◌, ap, sym, List, map, Some, slice_get}
use Rattle.flow_plan.specs.declared.plan.Connection.{Connection as NetConnection}
use Rattle.flow_machine.specs.Starts.{channel_begun}
use Rattle.flow_machine.proofs.StartLemmas.{starts-net, is-start}
use Rattle.flow_machine.proofs.net.Net.start.Goals as goal

pub channels_of-requires : goal.channels_of-requires
channels_of-requires g c = λ n x is.
    let there : slice_get c.args.plan.now.connections n ≡ Some x = ap (λ (cs : List NetConnection). slice_get cs n) (sym c.connections-2.ensures) ∙ is in
    c.requires.well.wired.few_senders n x there

pub invariant_of-result : goal.invariant_of-result
invariant_of-result g c =
    let copy : c.in_ok-connections.connections.items ≡ c.args.plan.now.connections = c.in_ok-connections.ensures ∙ c.connections.ensures in
    let channels : c.in_ok-channels.channels.items ≡ map channel_begun c.args.plan.now.connections = c.in_ok-channels.ensures ∙ ap (map channel_begun) c.connections-2.ensures in
    rw (copy, channels) (is-start g.K.Component.rules c.args.plan.now (map g.K.Component.state_of c.args.components.items) c.in-Ok.bodies.items c.requires.well c.in-Ok.ensures)

pub returns-in-Ok : goal.returns-in-Ok
returns-in-Ok g c =
    let copy : c.in_ok-connections.connections.items ≡ c.args.plan.now.connections = c.in_ok-connections.ensures ∙ c.connections.ensures in
    let channels : c.in_ok-channels.channels.items ≡ map channel_begun c.args.plan.now.connections = c.in_ok-channels.ensures ∙ ap (map channel_begun) c.connections-2.ensures in
    rw (copy, channels) (starts-net g.K.Component.rules c.args.plan.now (map g.K.Component.state_of c.args.components.items) c.in-Ok.bodies.items c.requires.well c.in-Ok.ensures)
