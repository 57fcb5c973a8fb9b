use Rattle.std.proofs.Common.{sym, ap, arith}
use Rattle.flow_files.specs.Real.{untold}
use Rattle.flow_text.proofs.Logs.{last_moved-nil}
use Rattle.flow_files.proofs.shelf.FileShelfSink.write.Goals as goal

pub returns-then-is_empty : goal.returns-then-is_empty
returns-then-is_empty g c =
    let s = c.args.self.now in
    record { writes = (ap (λ files. record (untold s) { created = files }) (sym (last_moved-nil s.created_files)), omega arith, grind arith) }
