use Rattle.std.proofs.Common.{rules, ◌≡◌, ◌<◌, ap, subst, sym, refl, ℕ, length, Option}
use Rattle.std.specs.Prelude.{IfSome}
use Rattle.flow_model.specs.declared.Block.TheVariants.{Dormant}
use Rattle.flow_machine.specs.declared.answers.Effect.TheVariants as effects
use Rattle.flow_machine.specs.Effects.{TakesTurn, id_sent}
use Rattle.flow_machine.proofs.Pairs.{left_behind, sent-off}
use Rattle.flow_machine.proofs.net.pair.send.Goals as goal

pub returns-then-has_room : goal.returns-then-has_room
returns-then-has_room g c =
    let mid = left_behind c.args.body.now c.send-packet.result in
    let sends = ap id_sent c.requires.stage.1 in
    let takes = subst (λ (o : Option ℕ). IfSome o (λ id. TakesTurn (mid id) effects.Sent c.args.stamp c.send-packet.new.self)) sends c.send-packet.ensures.turn in
    let left = subst (λ (o : Option ℕ). IfSome o (λ id. mid c.requires.stage.0 ≡ mid id)) (sym sends) refl in
    sent-off c.args.body.now (mid c.requires.stage.0) c.send-packet.new.self c.args.channel.now c.put.new.self c.args.port c.args.connection c.requires.stage.0 c.args.stamp Dormant c.send-packet.result c.requires.stage.1 c.send-packet.ensures.packet left
    (let h : length c.args.channel.now.packets < c.args.channel.now.capacity = search rules in h) c.put.ensures takes
