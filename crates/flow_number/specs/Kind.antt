-- The kind of which the part is.
use Rattle.std.specs.Prelude.{codes}
use Rattle.flow_plan.specs.declared.kind.KindSpec.{KindSpec}
use Rattle.flow_line_kind.specs.Kind.{line_kind}

-- The kind Number: packets come in at IN, and leave by OUT.
abbrev pub number_kind : KindSpec
number_kind = line_kind (codes "Number")
