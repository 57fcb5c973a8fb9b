use Rattle.std.proofs.Common.{◌∙◌, sym}
use Rattle.flow_model.specs.declared.Block.TheVariants.{Dormant}
use Rattle.flow_machine.proofs.Pairs.{got, heard}
use Rattle.flow_machine.proofs.net.pair.receive.Goals as goal

pub returns-then-holds_packet : goal.returns-then-holds_packet
returns-then-holds_packet g c = got c.args.body.now c.get.new.self c.args.channel.now c.take-packet.new.self c.args.port.0 c.args.connection c.args.stamp Dormant c.take-packet.result c.take-packet.ensures.oldest c.take-packet.ensures.rest c.get.ensures

pub returns-then-open_senders-eq0 : goal.returns-then-open_senders-eq0
returns-then-open_senders-eq0 g c = heard c.args.body.now c.hear_end.new.self c.args.channel.now c.args.port.0 c.args.connection c.args.stamp Dormant (sym c.holds_packet.ensures ∙ c.if-holds_packet.false) (sym c.open_senders.ensures ∙ c.if-open_senders-eq0.true) c.hear_end.ensures
