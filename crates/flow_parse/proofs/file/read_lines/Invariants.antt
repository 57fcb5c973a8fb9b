use Rattle.std.proofs.Common.{◌+◌, drop, map, Option, None, Result}
use Rattle.flow_parse.specs.declared.fault.NetFault.{NetFault}
use Rattle.flow_parse.specs.declared.value.NetText.{NetText}
use Rattle.flow_parse.specs.Files.{Parts, LeadsTo}
use Rattle.flow_parse.specs.Reader.{Stands}
use Rattle.flow_parse.proofs.file.read_lines.Given as goal

abbrev pub invariant-lines : goal.invariant-lines
invariant-lines l = (before : Option Parts) × Stands l.reader before
    × ((outcome : Result NetText NetFault) → LeadsTo (l.i + 1) before (drop l.i (map (λ row. row.items) l.fn.lines)) outcome → LeadsTo 1 None (map (λ row. row.items) l.fn.lines) outcome)
