use Rattle.std.proofs.Common.{◌≡◌, take}
use Rattle.flow_report.specs.Of.{told_from}
use Rattle.flow_draw.specs.States.{channel_said}
use Rattle.flow_draw.proofs.remarks.connection_remarks.Given as goal

abbrev pub invariant-loop-connection : goal.invariant-loop-connection
invariant-loop-connection g l = l.remarks ≡ told_from (channel_said l.cycle) 0 (take l.connection l.net.channels)
