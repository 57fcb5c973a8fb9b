use Rattle.std.proofs.Common.{◌≡◌, ◌++◌, take}
use Rattle.flow_report.specs.declared.report.Place.TheVariants.{InHands}
use Rattle.flow_report.specs.Left.{left_at}
use Rattle.flow_report.proofs.left.push_hands.Given as goal

abbrev pub invariant-loop-packet : goal.invariant-loop-packet
invariant-loop-packet l = l.left ≡ l.initial.left ++ left_at (InHands l.process) (take l.packet-index l.packets)
