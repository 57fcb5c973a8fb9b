use Rattle.std.proofs.Common.{◌≡◌, ◌∙◌, sym, map, refl, Some, slice_get, get_or}
use Rattle.std.proofs.lemmas.Option.{slice_get-get_or, slice_get_within}
use Rattle.flow_model.specs.Stands.{ChannelShown, look_shown}
use Rattle.flow_model.specs.declared.Block.TheVariants.{Dormant}
use Rattle.flow_machine.proofs.Pairs.{started, finished, source-there, signalled, resting}
use Rattle.flow_machine.proofs.net.pair.wake.Goals as goal

pub returns-then-can_start : goal.returns-then-can_start
returns-then-can_start g c = started c.args.body.now c.start.new.self c.args.channels.now c.args.stamp Dormant (sym c.can_start.ensures ∙ c.if-can_start.true) c.start.ensures

pub returns-then-can_finish : goal.returns-then-can_finish
returns-then-can_finish g c = finished c.args.body.now c.begin_closing.new.self c.args.channels.now c.args.stamp Dormant (sym c.can_start.ensures ∙ c.if-can_start.false) (sym c.can_finish.ensures ∙ c.if-can_finish.true) c.begin_closing.ensures

pub returns-then-not-takes_signal : goal.returns-then-not-takes_signal
returns-then-not-takes_signal g c = (refl, resting c.args.body.now.process (map look_shown c.args.channels.now) (sym c.can_start.ensures ∙ c.if-can_start.false) (sym c.can_finish.ensures ∙ c.if-can_finish.false) (sym c.takes_signal.ensures ∙ c.if-not-takes_signal.true), refl, refl)

pub returns : goal.returns
returns g c =
    let s = source-there c.args.channels.now c.args.body.now.process.signal c.in-Some.connection (sym c.in-Some.ensures) in
    let ch : ChannelShown = get_or c.args.channels.now c.in-Some.connection c.index-channels-connection.result in
    let there : slice_get c.args.channels.now c.in-Some.connection ≡ Some ch = slice_get-get_or _ _ _ (slice_get_within c.args.channels.now c.in-Some.connection s.channel s.there) in
    signalled c.args.body.now c.take_signal.new.self c.args.channels.now c.in-Some.connection c.args.stamp Dormant ch c.take-packet.new.self c.take-packet.result (sym c.can_start.ensures ∙ c.if-can_start.false) (sym c.can_finish.ensures ∙ c.if-can_finish.false)
    (sym c.takes_signal.ensures ∙ c.if-not-takes_signal.false) s.is there c.take-packet.ensures.oldest c.take-packet.ensures.rest c.take_signal.ensures
