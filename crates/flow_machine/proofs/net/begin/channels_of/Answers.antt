use Rattle.std.proofs.Common.{◌≡◌, ◌∙◌, ◌++◌, [], ◌∷◌, ℕ, map, ap, sym, arith, Some}
use Rattle.std.proofs.lemmas.List.{map_more, take_all}
use Rattle.std.proofs.lemmas.Option.{slice_get-get_or}
use Rattle.flow_plan.specs.declared.plan.Connection.{Connection as NetConnection}
use Rattle.flow_model.specs.Stands.{ChannelShown}
use Rattle.flow_machine.specs.Starts.{channel_begun}
use Rattle.flow_machine.proofs.net.begin.channels_of.Goals as goal

pub overflow_cast-senders : goal.overflow_cast-senders
overflow_cast-senders c =
    let x : NetConnection = c.connection-item.result in
    let there = slice_get-get_or c.args.connections.now c.loop-connection.connection-index x c.loop-connection-test.true ∙ ap (λ (y : NetConnection). Some y) (sym c.connection-item.is) in
    omega (arith, c.len-senders.ensures, c.requires c.loop-connection.connection-index x there)

pub loop-connection-preserved : goal.loop-connection-preserved
loop-connection-preserved c =
    let x : NetConnection = c.connection-item.result in
    let one : c.in-Ok.channel ≡ channel_begun x = c.in-Ok.ensures ∙ ap (λ (n : ℕ). let ch : ChannelShown = record { packets = []; capacity = x.capacity; open_senders = n; puts = 0; takes = 0 } in ch) c.len-senders.ensures in
    let more = map_more channel_begun c.args.connections.now c.loop-connection.connection-index x c.loop-connection-test.true in
    c.in_default-push.ensures.items ∙ (λ i. c.loop-connection.invariant i ++ (one ∙ ap channel_begun c.connection-item.is) i ∷ []) ∙ sym more

pub returns : goal.returns
returns c = c.loop-connection.invariant ∙ ap (map channel_begun) (take_all c.loop-connection.connection-index c.args.connections.now c.loop-connection-test.false)
