use Rattle.std.proofs.Common.{◌≡◌, ◌++◌, take}
use Rattle.flow_parse.specs.Spelling.{doubled}
use Rattle.flow_fill.proofs.rows.put_doubled.Given as goal

abbrev pub invariant-bytes : goal.invariant-bytes
invariant-bytes l = l.out.items ≡ l.fn.out.items ++ doubled (take l.byte-index l.text)
