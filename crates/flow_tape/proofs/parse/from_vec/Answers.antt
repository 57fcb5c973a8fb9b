use Rattle.std.proofs.Common.{◌≡◌, ◌<◌, ◌-◌, ◌≤◌, List, ℕ, Err, length, get_or, ap, ◌∙◌, sym, subst, arith}
use Rattle.flow_tape.specs.Reading.{file_at}
use Rattle.flow_tape.proofs.Readers.{AreBytes}
use Rattle.flow_tape.proofs.FileReader.{file-takes, file-faults, left-within}
use Rattle.flow_tape.proofs.parse.from_vec.Goals as goal

pub overflow_sub-place : goal.overflow_sub-place
overflow_sub-place c =
    let bytes : List ℕ = c.args.bytes.items in
    let small : AreBytes bytes = λ i. subst (λ (b : List ℕ). get_or b i 0 < 256) c.deref.ensures.value (c.bytes_are_small.ensures i) in
    let stopped = rw c.in-Err-Fault.field-0-is at c.in-Err-Fault.ensures in
    let read : file_at bytes ≡ Err c.in-Err-Fault.left = ap file_at (sym c.in-Ok.ensures.ok) ∙ stopped in
    let size : c.len-size.result ≡ length bytes = c.len-size.ensures ∙ c.args.bytes.ok.0 in
    omega (arith, left-within bytes c.in-Err-Fault.left small read, size)

pub returns-in-Ok-file_of-clause-file : goal.returns-in-Ok-file_of-clause-file
returns-in-Ok-file_of-clause-file c =
    let bytes : List ℕ = c.args.bytes.items in
    let small : AreBytes bytes = λ i. subst (λ (b : List ℕ). get_or b i 0 < 256) c.deref.ensures.value (c.bytes_are_small.ensures i) in
    file-takes bytes c.in-Ok-file_of.tapes.items small (ap file_at (sym c.in-Ok.ensures.ok) ∙ c.in-Ok-file_of.ensures)

pub returns-in-Err-Fault-clause-fault : goal.returns-in-Err-Fault-clause-fault
returns-in-Err-Fault-clause-fault c =
    let bytes : List ℕ = c.args.bytes.items in
    let small : AreBytes bytes = λ i. subst (λ (b : List ℕ). get_or b i 0 < 256) c.deref.ensures.value (c.bytes_are_small.ensures i) in
    let stopped = rw c.in-Err-Fault.field-0-is at c.in-Err-Fault.ensures in
    let read : file_at bytes ≡ Err c.in-Err-Fault.left = ap file_at (sym c.in-Ok.ensures.ok) ∙ stopped in
    let size : c.len-size.result ≡ length bytes = c.len-size.ensures ∙ c.args.bytes.ok.0 in
    let within : c.in-Err-Fault.left ≤ length bytes = left-within bytes c.in-Err-Fault.left small read in
    file-faults bytes c.in-Err-Fault.left (c.len-size.result - c.in-Err-Fault.left) small read (omega (arith, within, size))
