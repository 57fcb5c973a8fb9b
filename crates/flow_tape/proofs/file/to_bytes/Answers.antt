use Rattle.std.proofs.Common.{rules}
use Rattle.flow_tape.proofs.Spelling.{whole-file}
use Rattle.flow_tape.proofs.file.to_bytes.Goals as goal

pub returns : goal.returns
returns c = record { writable = c.requires; whole = whole-file c.args.tapes.now c.requires.few c.in_ok-put_tapes.ensures.whole; is = search rules }
