use Rattle.std.proofs.Common.{◌≡◌, map, drop}
use Rattle.std.specs.List.{list_any}
use Rattle.flow_model.specs.Events.{has_packet}
use Rattle.flow_model.specs.Stands.{look_shown}
use Rattle.flow_machine.specs.Inlets.{input_shown}
use Rattle.flow_machine.proofs.body.idle.any_packet.Given as goal

abbrev pub invariant-loop-inlet : goal.invariant-loop-inlet
invariant-loop-inlet l = list_any (has_packet (map look_shown l.channels)) (map input_shown (drop l.inlet-index l.inlets)) ≡ list_any (has_packet (map look_shown l.channels)) (map input_shown l.inlets)
