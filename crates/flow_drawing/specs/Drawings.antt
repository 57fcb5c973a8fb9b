-- The drawing of a plan.
use Rattle.std.specs.Prelude.{ℕ, zero, suc, ◌+◌, ◌-◌, ◌==◌, ◌||◌, Bool, true, false, not, if◌then◌else◌, List, [], ◌∷◌, ◌++◌, length, take, drop, replicate, Option, Some, None, slice_get, slice_index, unwrap_or, codes}
use Rattle.std.specs.List.{common_prefix_len, enumerate_from, flat_map}
use Rattle.std.specs.Option.{option_map}
use Rattle.std.specs.Str.{bytes_eq}
use Rattle.flow_limits.specs.declared.TheConstants.{DEFAULT_CAPACITY}
use Rattle.flow_plan.specs.declared.kind.KindSpec.{KindSpec}
use Rattle.flow_plan.specs.declared.plan.Sender.{Sender}
use Rattle.flow_plan.specs.declared.plan.Process.{Process}
use Rattle.flow_plan.specs.declared.plan.Connection.{Connection}
use Rattle.flow_plan.specs.Network.{Network}
use Rattle.flow_drawing.specs.declared.drawing.Remark.{Remark}
use Rattle.flow_drawing.specs.declared.drawing.Remarks.{Remarks}
use Rattle.flow_drawing.specs.declared.drawing.Setting.{Setting}
use Rattle.flow_drawing.specs.declared.drawing.Node.{Node}
use Rattle.flow_drawing.specs.declared.drawing.Row.{Row}
use Rattle.flow_drawing.specs.declared.drawing.Row.TheVariants.{Opens, Closes, Shows}
use Rattle.flow_drawing.specs.declared.drawing.Given.{Given}
use Rattle.flow_drawing.specs.declared.drawing.Edge.{Edge}
use Rattle.flow_drawing.specs.declared.drawing.Drawing.{Drawing}
use Rattle.flow_drawing.specs.Ports.{input_text, output_text, is_automatic_input, is_automatic_output}
use Rattle.flow_drawing.specs.Remarks.{remark_at}

-- The box whose name ends before this place of a flat name, where a dot stands there.
abbrev pub box_at : List ℕ → ℕ → List (List ℕ)
box_at name k = if slice_index name k == 46 then take k name ∷ [] else []

-- The boxes by the dots among the first bytes of a flat name.
abbrev pub boxes_within : List ℕ → ℕ → List (List ℕ)
boxes_within name zero = []
boxes_within name (suc k) = boxes_within name k ++ box_at name k

-- The boxes in which the process of this flat name stands, from the outermost one: for each dot of the name the subnet process whose flat name stands before it.
abbrev pub boxes_of : List ℕ → List (List ℕ)
boxes_of name = boxes_within name (length name)

-- Whether boxes agree at this place: some agree from there on.
abbrev pub agrees : List (List ℕ) → List (List ℕ) → ℕ → Bool
agrees opened boxes k = not (common_prefix_len bytes_eq (drop k opened) (drop k boxes) == 0)

-- The box of this name begins, in so many others, before process p.
abbrev pub begins : ℕ → ℕ × List ℕ → List Row
begins p box = Opens p box.0 box.1 ∷ []

-- These boxes begin before process p, the first of them in so many others.
abbrev pub begun : ℕ → ℕ → List (List ℕ) → List Row
begun p depth boxes = flat_map (begins p) (enumerate_from depth boxes)

-- From the boxes that are open to those of process p: from the first on that differs, those end and these begin.
abbrev pub steps : List (List ℕ) → List (List ℕ) → ℕ → List Row
steps opened boxes p =
    replicate (length opened - common_prefix_len bytes_eq opened boxes) Closes
    ++ begun p (common_prefix_len bytes_eq opened boxes) (drop (common_prefix_len bytes_eq opened boxes) boxes)

-- The name of the input port at this place of a kind.
abbrev pub option_at : KindSpec → ℕ → List ℕ
option_at kind place = unwrap_or (option_map (λ port. port.name) (slice_get kind.inputs place)) []

-- The name of the input port at this place of the kind of this name.
abbrev pub option_name : List KindSpec → List ℕ → ℕ → List ℕ
option_name [] name place = []
option_name (kind ∷ kinds) name place = if bytes_eq kind.name name then option_at kind place else option_name kinds name place

-- A process of this kind writes what arrives to a file, which its option names.
abbrev pub is_writer : List ℕ → Bool
is_writer kind = bytes_eq kind (codes "WriteLines")

-- An option of a process of this kind: the name of its port, and its text.
abbrev pub setting_of : List KindSpec → List ℕ → ℕ × List ℕ → List Setting
setting_of kinds kind option = record { port = option_name kinds kind option.0; text = option.1 } ∷ []

-- What stands in the box of a process below its name: its options, but for the file of a writer.
abbrev pub settings_of : List KindSpec → Process → List Setting
settings_of kinds process = if is_writer process.kind then [] else flat_map (setting_of kinds process.kind) process.options

-- Process p, by its name, its kind and its options.
abbrev pub node_of : List KindSpec → List Remark → ℕ → Process → Node
node_of kinds remarks p process =
    record { number = p; name = process.name; kind = process.kind; options = settings_of kinds process; remark = remark_at remarks p }

-- The rows of these processes, the first of which has the number p, where these boxes are open: each process in its boxes. Behind the last one all boxes end.
abbrev pub rows_from : List KindSpec → List Remark → List (List ℕ) → ℕ → List Process → List Row
rows_from kinds remarks opened p [] = replicate (length opened) Closes
rows_from kinds remarks opened p (process ∷ processes) =
    steps opened (boxes_of process.name) p ++ Shows (node_of kinds remarks p process) ∷ rows_from kinds remarks (boxes_of process.name) (p + 1) processes

-- An option of process p, which is of this kind, as a text of its own: its place among the options, and the place of its port and the text.
abbrev pub given_option : List KindSpec → ℕ → List ℕ → ℕ × (ℕ × List ℕ) → List Given
given_option kinds p kind option = record { process = p; option = true; place = option.0; port = option_name kinds kind option.1.0; text = option.1.1 } ∷ []

-- An initial text of process p: its place among them, and the number of its input and the text.
abbrev pub given_initial : Network → ℕ → ℕ × (ℕ × List ℕ) → List Given
given_initial plan p initial = record { process = p; option = false; place = initial.0; port = input_text plan p initial.1.0; text = initial.1.1 } ∷ []

-- The file that a process with its number writes, where it is a writer.
abbrev pub files_of : List KindSpec → ℕ × Process → List Given
files_of kinds process =
    if is_writer process.1.kind then flat_map (given_option kinds process.0 process.1.kind) (enumerate_from 0 process.1.options) else []

-- The texts that stand beside a process with its number: the file that it writes, and then its initial texts.
abbrev pub givens_of : List KindSpec → Network → ℕ × Process → List Given
givens_of kinds plan process = files_of kinds process ++ flat_map (given_initial plan process.0) (enumerate_from 0 process.1.initials)

-- The capacity, where it isn't the default.
abbrev pub told_capacity : ℕ → Option ℕ
told_capacity capacity = if capacity == DEFAULT_CAPACITY then None else Some capacity

-- The edge of a sender of connection c: from its output to the receiver's input.
abbrev pub edge_of : List Remark → Network → ℕ → Connection → Sender → List Edge
edge_of remarks plan c connection sender = record {
  from = sender.process;
  output = output_text plan sender.process sender.output;
  to = connection.receiver;
  input = input_text plan connection.receiver connection.input;
  capacity = told_capacity connection.capacity;
  automatic = is_automatic_output plan sender.process sender.output || is_automatic_input plan connection.receiver connection.input;
  remark = remark_at remarks c;
} ∷ []

-- The edges of a connection with its number: one for each sender, in order.
abbrev pub edges_of : List Remark → Network → ℕ × Connection → List Edge
edges_of remarks plan connection = flat_map (edge_of remarks plan connection.0 connection.1) connection.1.senders

-- The drawing of a plan over these kinds, with these remarks: its processes in their order, each in its boxes; the texts beside each process; and an edge for each sender of
-- each connection.
abbrev pub drawing_of : List KindSpec → Remarks → Network → Drawing
drawing_of kinds remarks plan = record {
  rows = rows_from kinds remarks.processes [] 0 plan.processes;
  givens = flat_map (givens_of kinds plan) (enumerate_from 0 plan.processes);
  edges = flat_map (edges_of remarks.connections plan) (enumerate_from 0 plan.connections);
}
