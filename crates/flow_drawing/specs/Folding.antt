-- The drawing of a plan in which each subnet process is one box, with nothing of what stands inside.
use Rattle.std.specs.Prelude.{ℕ, ◌+◌, ◌==◌, ◌&&◌, Bool, true, false, if◌then◌else◌, List, [], ◌∷◌, ◌++◌, length, drop, Option, Some, None, is_some, slice_get, unwrap_or, codes}
use Rattle.std.specs.List.{enumerate_from, flat_map}
use Rattle.std.specs.Option.{option_map}
use Rattle.std.specs.Str.{bytes_eq}
use Rattle.flow_plan.specs.declared.kind.KindSpec.{KindSpec}
use Rattle.flow_plan.specs.declared.plan.Process.{Process}
use Rattle.flow_plan.specs.Network.{Network}
use Rattle.flow_drawing.specs.declared.drawing.Mark.{Mark}
use Rattle.flow_drawing.specs.declared.drawing.Mark.TheVariants.{Plain, Blocked, Cycle}
use Rattle.flow_drawing.specs.declared.drawing.Remark.{Remark}
use Rattle.flow_drawing.specs.declared.drawing.Remarks.{Remarks}
use Rattle.flow_drawing.specs.declared.drawing.Row.{Row}
use Rattle.flow_drawing.specs.declared.drawing.Row.TheVariants.{Folds, Shows}
use Rattle.flow_drawing.specs.declared.drawing.Given.{Given}
use Rattle.flow_drawing.specs.declared.drawing.Edge.{Edge}
use Rattle.flow_drawing.specs.declared.drawing.Drawing.{Drawing}
use Rattle.flow_drawing.specs.Remarks.{remark_at}
use Rattle.flow_drawing.specs.Drawings.{boxes_of, drawing_of, node_of}

-- The outermost box in which the process of this flat name stands, where it stands in one.
abbrev pub outermost : List ℕ → Option (List ℕ)
outermost name = slice_get (boxes_of name) 0

-- Whether it stands in this box, as its outermost one.
abbrev pub is_within : List ℕ → List ℕ → Bool
is_within box name = unwrap_or (option_map (bytes_eq box) (outermost name)) false

-- The number of the first of these processes that stands in this box, where they are numbered from p on.
abbrev pub first_within : List ℕ → ℕ → List Process → ℕ
first_within box p [] = p
first_within box p (process ∷ processes) = if is_within box process.name then p else first_within box (p + 1) processes

-- The flat name of process p.
abbrev pub name_of : List Process → ℕ → List ℕ
name_of processes p = unwrap_or (option_map (λ process. process.name) (slice_get processes p)) []

-- What stands for process p: itself, or its box, which has the number of the first process in it.
abbrev pub front_by : List Process → ℕ → Option (List ℕ) → ℕ
front_by processes p None = p
front_by processes p (Some box) = first_within box 0 processes

-- The number by which process p is drawn.
abbrev pub front_of : List Process → ℕ → ℕ
front_of processes p = front_by processes p (outermost (name_of processes p))

-- The graver of two marks.
abbrev pub graver : Mark → Mark → Mark
graver Plain mark = mark
graver Cycle mark = Cycle
graver Blocked Plain = Blocked
graver Blocked Blocked = Blocked
graver Blocked Cycle = Cycle

-- The mark of process p, which has this name, where it stands in this box.
abbrev pub own_mark : List Remark → List ℕ → ℕ → List ℕ → Mark
own_mark remarks box p name = if is_within box name then (remark_at remarks p).mark else Plain

-- The gravest mark of those of these processes that stand in this box, where they are numbered from p on.
abbrev pub mark_within : List Remark → List ℕ → ℕ → List Process → Mark
mark_within remarks box p [] = Plain
mark_within remarks box p (process ∷ processes) = graver (own_mark remarks box p process.name) (mark_within remarks box (p + 1) processes)

-- The row of this box at process p, where that is the first one in it.
abbrev pub box_row : List Remark → List Process → ℕ → List ℕ → List Row
box_row remarks processes p box = if first_within box 0 processes == p then Folds p box (mark_within remarks box 0 processes) ∷ [] else []

-- The row of a process with its number: the process itself; or its box, where it is the first one in it, and nothing where it isn't.
abbrev pub folded_by : List KindSpec → List Remark → List Process → ℕ × Process → Option (List ℕ) → List Row
folded_by kinds remarks processes process None = Shows (node_of kinds remarks process.0 process.1) ∷ []
folded_by kinds remarks processes process (Some box) = box_row remarks processes process.0 box

-- The same by the box in which it stands.
abbrev pub folded_row : List KindSpec → List Remark → List Process → ℕ × Process → List Row
folded_row kinds remarks processes process = folded_by kinds remarks processes process (outermost process.1.name)

-- A text stays where its process stands in no box.
abbrev pub folded_given : List Process → Given → List Given
folded_given processes given = if is_some (outermost (name_of processes given.process)) then [] else given ∷ []

-- What stands before a port at a box: the rest of the flat name of its process, behind the name of the box and a dot; and a dot.
abbrev pub inner_by : List ℕ → Option (List ℕ) → List ℕ
inner_by name None = []
inner_by name (Some box) = drop 1 (drop (length box) name) ++ codes "."

-- A port of process p, where that is drawn as a part of its box.
abbrev pub folded_port : List Process → ℕ → List ℕ → List ℕ
folded_port processes p port = inner_by (name_of processes p) (outermost (name_of processes p)) ++ port

-- Whether both ends of an edge stand in one box.
abbrev pub is_inside : List Process → Edge → Bool
is_inside processes edge = is_some (outermost (name_of processes edge.from)) && front_of processes edge.from == front_of processes edge.to

-- An edge between what stands for its ends, and none where both stand in one box.
abbrev pub folded_edge : List Process → Edge → List Edge
folded_edge processes edge = if is_inside processes edge then [] else record {
  from = front_of processes edge.from;
  output = folded_port processes edge.from edge.output;
  to = front_of processes edge.to;
  input = folded_port processes edge.to edge.input;
  capacity = edge.capacity;
  automatic = edge.automatic;
  remark = edge.remark;
} ∷ []

-- The drawing of a plan, folded: each process that stands in no box, and each outermost box once, in the order of the plan; and what the whole drawing has of texts and edges
-- outside of the boxes.
abbrev pub folded_of : List KindSpec → Remarks → Network → Drawing
folded_of kinds remarks plan = record {
  rows = flat_map (folded_row kinds remarks.processes plan.processes) (enumerate_from 0 plan.processes);
  givens = flat_map (folded_given plan.processes) (drawing_of kinds remarks plan).givens;
  edges = flat_map (folded_edge plan.processes) (drawing_of kinds remarks plan).edges;
}

-- The drawing of a plan, whole or folded.
abbrev pub drawing_as : Bool → List KindSpec → Remarks → Network → Drawing
drawing_as false kinds remarks plan = drawing_of kinds remarks plan
drawing_as true kinds remarks plan = folded_of kinds remarks plan
