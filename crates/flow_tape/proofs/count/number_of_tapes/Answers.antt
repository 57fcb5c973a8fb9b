use Rattle.std.proofs.Common.{◌≤◌, ◌-◌, length, arith}
use Rattle.flow_tape.proofs.FileReader.{file-faults, left-within}
use Rattle.flow_tape.proofs.Counting.{counted_file, uncounted}
use Rattle.flow_tape.proofs.count.number_of_tapes.Goals as goal

pub overflow_sub-place : goal.overflow_sub-place
overflow_sub-place c =
    let stopped = rw c.in-Err-Fault.field-0-is at c.in-Err-Fault.ensures in
    left-within c.args.bytes.now c.in-Err-Fault.left c.bytes_are_small.ensures (uncounted c.args.bytes.now c.in-Err-Fault.left stopped)

pub returns-in-Ok-clause-number : goal.returns-in-Ok-clause-number
returns-in-Ok-clause-number c = counted_file c.args.bytes.now c.in-Ok.number c.bytes_are_small.ensures c.in-Ok.ensures

pub returns-in-Err-Fault-clause-fault : goal.returns-in-Err-Fault-clause-fault
returns-in-Err-Fault-clause-fault c =
    let stopped = rw c.in-Err-Fault.field-0-is at c.in-Err-Fault.ensures in
    let read = uncounted c.args.bytes.now c.in-Err-Fault.left stopped in
    let within : c.in-Err-Fault.left ≤ length c.args.bytes.now = left-within c.args.bytes.now c.in-Err-Fault.left c.bytes_are_small.ensures read in
    file-faults c.args.bytes.now c.in-Err-Fault.left (length c.args.bytes.now - c.in-Err-Fault.left) c.bytes_are_small.ensures read (omega (arith, within))
