-- How a drawing is spelled, for Mermaid and for Graphviz. (This project's own, in the languages of these two.)
use Rattle.std.specs.Prelude.{ℕ, ◌==◌, Bool, true, false, if◌then◌else◌, List, [], ◌++◌, length, Option, Some, None, codes}
use Rattle.std.specs.List.{flat_map}
use Rattle.std.specs.Fmt.{decimal}
use Rattle.flow_drawing.specs.declared.quote.Form.{Form}
use Rattle.flow_drawing.specs.declared.quote.Form.TheVariants.{Mermaid, Dot}
use Rattle.flow_drawing.specs.declared.drawing.Mark.{Mark}
use Rattle.flow_drawing.specs.declared.drawing.Mark.TheVariants.{Plain, Blocked, Cycle}
use Rattle.flow_drawing.specs.declared.drawing.Setting.{Setting}
use Rattle.flow_drawing.specs.declared.drawing.Node.{Node}
use Rattle.flow_drawing.specs.declared.drawing.Row.{Row}
use Rattle.flow_drawing.specs.declared.drawing.Row.TheVariants.{Opens, Closes, Folds, Shows}
use Rattle.flow_drawing.specs.declared.drawing.Given.{Given}
use Rattle.flow_drawing.specs.declared.drawing.Edge.{Edge}
use Rattle.flow_drawing.specs.declared.drawing.Drawing.{Drawing}
use Rattle.flow_drawing.specs.Quotes.{quoted}

-- A process is named by its number.
abbrev pub process_id : ℕ → List ℕ
process_id p = codes "p" ++ decimal p

-- A box is named by the process that comes next behind its beginning, and by how many boxes it stands in.
abbrev pub box_id : ℕ → ℕ → List ℕ
box_id p depth = decimal p ++ codes "_" ++ decimal depth

-- A file that is written, which is an option, is told apart from an initial text.
abbrev pub given_letter : Bool → List ℕ
given_letter true = codes "o"
given_letter false = codes "t"

-- A text is named by its process, and by its place among the options or among the initial texts.
abbrev pub given_id : Given → List ℕ
given_id given = given_letter given.option ++ box_id given.process given.place

-- A line ends within a label.
abbrev pub line_break : Form → List ℕ
line_break Mermaid = codes "<br>"
line_break Dot = codes "\\n"

-- A note stands in a line of its own, where there is one.
abbrev pub note_text : Form → List ℕ → List ℕ
note_text form note = if length note == 0 then [] else line_break form ++ quoted form note

-- An option stands in a line of its own: the name of its port, and its text between '.
abbrev pub setting_text : Form → Setting → List ℕ
setting_text form setting = line_break form ++ quoted form setting.port ++ codes " '" ++ quoted form setting.text ++ codes "'"

-- The label of a process: its name and its kind, its options, and the note on it.
abbrev pub node_label : Form → Node → List ℕ
node_label form node =
    quoted form node.name ++ codes ": " ++ quoted form node.kind ++ flat_map (setting_text form) node.options ++ note_text form node.remark.note

-- A capacity, where it is told.
abbrev pub capacity_text : Option ℕ → List ℕ
capacity_text None = []
capacity_text (Some n) = codes ", capacity " ++ decimal n

-- The label of a sender: its output and the input to which it leads, the capacity where it is told, and the note on the connection.
abbrev pub edge_label : Form → Edge → List ℕ
edge_label form edge = quoted form edge.output ++ codes ", " ++ quoted form edge.input ++ capacity_text edge.capacity ++ note_text form edge.remark.note

-- How the line of a sender is drawn: plain, dotted where one of its ports is an automatic one, and thick where the connection belongs to the cycle of a deadlock.
abbrev pub automatic_arrow : Bool → List ℕ
automatic_arrow true = codes " -.->|\""
automatic_arrow false = codes " -->|\""

-- The arrow of Mermaid, up to its label.
abbrev pub arrow : Mark → Bool → List ℕ
arrow Cycle automatic = codes " ==>|\""
arrow Plain automatic = automatic_arrow automatic
arrow Blocked automatic = automatic_arrow automatic

-- The style of DOT for it, behind the label.
abbrev pub automatic_style : Bool → List ℕ
automatic_style true = codes "\", style=dotted]\n"
automatic_style false = codes "\"]\n"

-- The end of a sender's line.
abbrev pub edge_style : Mark → Bool → List ℕ
edge_style Cycle automatic = codes "\", color=red, penwidth=3]\n"
edge_style Plain automatic = automatic_style automatic
edge_style Blocked automatic = automatic_style automatic

-- How a process is drawn in Mermaid, in a line of its own: with a dashed border where it is blocked, and with a thick red one where it belongs to the cycle.
abbrev pub mermaid_style : Mark → ℕ → List ℕ
mermaid_style Plain p = []
mermaid_style Blocked p = codes "style " ++ process_id p ++ codes " stroke-dasharray:4\n"
mermaid_style Cycle p = codes "style " ++ process_id p ++ codes " stroke:red,stroke-width:3px\n"

-- The same in DOT, from the end of the label to that of the line.
abbrev pub dot_style : Mark → List ℕ
dot_style Plain = codes "\"]\n"
dot_style Blocked = codes "\", style=dashed]\n"
dot_style Cycle = codes "\", color=red, penwidth=3]\n"

-- The line of a row in Mermaid.
abbrev pub mermaid_row : Row → List ℕ
mermaid_row (Opens p depth name) = codes "subgraph b" ++ box_id p depth ++ codes "[\"subnet " ++ quoted Mermaid name ++ codes "\"]\n"
mermaid_row Closes = codes "end\n"
mermaid_row (Folds p name mark) = process_id p ++ codes "[[\"subnet " ++ quoted Mermaid name ++ codes "\"]]\n" ++ mermaid_style mark p
mermaid_row (Shows node) = process_id node.number ++ codes "[\"" ++ node_label Mermaid node ++ codes "\"]\n" ++ mermaid_style node.remark.mark node.number

-- The line of a row in DOT.
abbrev pub dot_row : Row → List ℕ
dot_row (Opens p depth name) = codes "subgraph cluster_" ++ box_id p depth ++ codes " {\nlabel=\"subnet " ++ quoted Dot name ++ codes "\"\n"
dot_row Closes = codes "}\n"
dot_row (Folds p name mark) = process_id p ++ codes " [peripheries=2, label=\"subnet " ++ quoted Dot name ++ dot_style mark
dot_row (Shows node) = process_id node.number ++ codes " [label=\"" ++ node_label Dot node ++ dot_style node.remark.mark

-- A text in Mermaid: between ', in a rounded box.
abbrev pub mermaid_text : Given → List ℕ
mermaid_text given = given_id given ++ codes "([\"'" ++ quoted Mermaid given.text ++ codes "'\"])"

-- The arrow between a text and its process, with the port.
abbrev pub mermaid_arrow : Given → List ℕ
mermaid_arrow given = codes " -->|\"" ++ quoted Mermaid given.port ++ codes "\"| "

-- The line of a text in Mermaid: an arrow from the text to its process, or from a process to the file that it writes.
abbrev pub mermaid_given : Given → List ℕ
mermaid_given given =
    if given.option then process_id given.process ++ mermaid_arrow given ++ mermaid_text given ++ codes "\n"
    else mermaid_text given ++ mermaid_arrow given ++ process_id given.process ++ codes "\n"

-- The same two ends in DOT.
abbrev pub dot_ends : Given → List ℕ
dot_ends given =
    if given.option then process_id given.process ++ codes " -> " ++ given_id given else given_id given ++ codes " -> " ++ process_id given.process

-- The lines of a text in DOT.
abbrev pub dot_given : Given → List ℕ
dot_given given =
    given_id given ++ codes " [shape=oval, label=\"'" ++ quoted Dot given.text ++ codes "'\"]\n"
    ++ dot_ends given ++ codes " [label=\"" ++ quoted Dot given.port ++ codes "\"]\n"

-- The line of a sender in Mermaid.
abbrev pub mermaid_edge : Edge → List ℕ
mermaid_edge edge =
    process_id edge.from ++ arrow edge.remark.mark edge.automatic ++ edge_label Mermaid edge ++ codes "\"| " ++ process_id edge.to ++ codes "\n"

-- The line of a sender in DOT.
abbrev pub dot_edge : Edge → List ℕ
dot_edge edge = process_id edge.from ++ codes " -> " ++ process_id edge.to ++ codes " [label=\"" ++ edge_label Dot edge ++ edge_style edge.remark.mark edge.automatic

-- The text of a drawing: its rows, then its texts, and then its senders, each in order.
abbrev pub drawing_text : Form → Drawing → List ℕ
drawing_text Mermaid drawing =
    codes "graph LR\n" ++ flat_map mermaid_row drawing.rows ++ flat_map mermaid_given drawing.givens ++ flat_map mermaid_edge drawing.edges
drawing_text Dot drawing =
    codes "digraph {\nrankdir=LR\nnode [shape=box]\n" ++ flat_map dot_row drawing.rows ++ flat_map dot_given drawing.givens ++ flat_map dot_edge drawing.edges ++ codes "}\n"
