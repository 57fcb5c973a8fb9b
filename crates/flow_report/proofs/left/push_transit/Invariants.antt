use Rattle.std.proofs.Common.{◌≡◌, ◌++◌, take}
use Rattle.flow_report.specs.declared.report.Place.TheVariants.{InConnection}
use Rattle.flow_report.specs.Left.{left_at}
use Rattle.flow_report.proofs.left.push_transit.Given as goal

abbrev pub invariant-loop-at : goal.invariant-loop-at
invariant-loop-at l = l.left ≡ l.initial.left ++ left_at (InConnection l.connection) (take l.at l.packets.items)
