use Rattle.std.proofs.Common.{List, ℕ, sym}
use Rattle.flow_tape.proofs.Spelling.{entries-written, bytes-both}
use Rattle.flow_tape.proofs.file.put_reel.Goals as goal

pub returns-clause-bytes : goal.returns-clause-bytes
returns-clause-bytes c =
    let own : List ℕ = c.bytes.result.0.now in
    let rest : List ℕ = c.bytes.result.1.now in
    let w = entries-written c.args.reel.now own rest (bytes-both own rest c.bytes_are_small.ensures c.bytes_are_small-2.ensures) c.bytes.ensures in
    rw (sym w.1) c.put_text.ensures.bytes

pub returns-clause-whole : goal.returns-clause-whole
returns-clause-whole c =
    let own : List ℕ = c.bytes.result.0.now in
    let rest : List ℕ = c.bytes.result.1.now in
    (entries-written c.args.reel.now own rest (bytes-both own rest c.bytes_are_small.ensures c.bytes_are_small-2.ensures) c.bytes.ensures).0
