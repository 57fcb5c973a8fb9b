-- What a drawing says besides.
use Rattle.std.specs.Prelude.{ℕ, List, [], slice_get, unwrap_or}
use Rattle.flow_drawing.specs.declared.drawing.Mark.TheVariants.{Plain}
use Rattle.flow_drawing.specs.declared.drawing.Remark.{Remark}
use Rattle.flow_drawing.specs.declared.drawing.Remarks.{Remarks}

-- Nothing is said.
abbrev pub no_remark : Remark
no_remark = record { note = []; mark = Plain }

-- Nothing is said of any process and connection.
abbrev pub no_remarks : Remarks
no_remarks = record { processes = []; connections = [] }

-- What is said at this number.
abbrev pub remark_at : List Remark → ℕ → Remark
remark_at remarks k = unwrap_or (slice_get remarks k) no_remark
