use Rattle.std.proofs.Common.{◌≡◌, ◌*◌, ◌≤◌, take, sum}
use Rattle.flow_streams.proofs.collate.width.Given as goal

abbrev pub invariant-loop-field : goal.invariant-loop-field
invariant-loop-field l = (l.bytes ≡ sum (take l.field-index l.field-items)) × (l.bytes ≤ 255 * l.field-index)
