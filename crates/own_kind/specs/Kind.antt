-- The kind of the component.
use Rattle.std.specs.Prelude.{◌∷◌, [], false, codes}
use Rattle.flow_plan.specs.declared.kind.KindSpec.{KindSpec}
use Rattle.flow_plan.specs.declared.kind.PortClass.TheVariants.{Number}
use Rattle.flow_line_kind.specs.Kind.{line_kind_with, option}

-- The kind Lines: packets come in at IN, and leave by OUT; and START may be given a number, 0 to 2^32 - 1.
abbrev pub lines_kind : KindSpec
lines_kind = line_kind_with (codes "Lines") (option (codes "START") (Number 0 4294967295) false ∷ [])
