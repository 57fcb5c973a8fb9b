-- The one canonical spelling of a value.
use Rattle.std.specs.Prelude.{ℕ, List, [], ◌∷◌, ◌++◌, map, Option, Some, None, option_map, codes}
use Rattle.std.specs.Fmt.{decimal}
use Rattle.std.specs.List.{flat_map, join_with_byte}
use Rattle.flow_parse.specs.declared.token.Token.{Token}
use Rattle.flow_parse.specs.declared.token.Token.TheVariants.{Word, Arrow, Quoted}
use Rattle.flow_plan.specs.declared.kind.PortRef.{PortRef}
use Rattle.flow_parse.specs.declared.value.Statement.{Statement}
use Rattle.flow_parse.specs.declared.value.Statement.TheVariants.{Connect, Initial, InPort, OutPort}
use Rattle.flow_parse.specs.declared.value.NetPart.{NetPart}
use Rattle.flow_parse.specs.declared.value.NetText.{NetText}
use Rattle.flow_parse.specs.Spelling.{spelling}
use Rattle.flow_parse.specs.Forms.{parenthesized, mention, port}

-- The pieces of a line, with one space between two, none within one, and byte 10 at the end.
abbrev pub line : List (List Token) → List ℕ
line pieces = join_with_byte 32 (map (flat_map spelling) pieces) ++ 10 ∷ []

-- A piece that is one word.
abbrev pub word : List ℕ → List Token
word w = Word w ∷ []

-- A port with its element, where it has one. An automatic port is spelled as it is named.
abbrev pub port_piece : PortRef → List Token
port_piece p = port (record { name = p.name; element = option_map decimal p.element })

-- A capacity, where there is one.
abbrev pub capacity_pieces : Option ℕ → List (List Token)
capacity_pieces None = []
capacity_pieces (Some n) = parenthesized (Some (decimal n)) ∷ []

-- The pieces of a statement's line.
abbrev pub statement_pieces : Statement → List (List Token)
statement_pieces (Connect from out capacity to into) = word from ∷ port_piece out ∷ (Arrow ∷ []) ∷ capacity_pieces capacity ++ port_piece into ∷ word to ∷ []
statement_pieces (Initial text to into) = (Quoted text ∷ []) ∷ (Arrow ∷ []) ∷ port_piece into ∷ word to ∷ []
statement_pieces (InPort outer to into) = word (codes "inport") ∷ word outer ∷ (Arrow ∷ []) ∷ port_piece into ∷ word to ∷ []
statement_pieces (OutPort from out outer) = word (codes "outport") ∷ word from ∷ port_piece out ∷ (Arrow ∷ []) ∷ word outer ∷ []

-- The line of a header.
abbrev pub header_line : ℕ → List ℕ
header_line version = line (word (codes "flow") ∷ word (decimal version) ∷ [])

-- The line of a process with its kind, given by its name and its kind.
abbrev pub process_line : List ℕ × List ℕ → List ℕ
process_line p = line (mention (record { name = p.0; kind = Some p.1 }) ∷ [])

-- The line of a statement.
abbrev pub statement_line : Statement → List ℕ
statement_line s = line (statement_pieces s)

-- The lines of a part: first its processes with their kinds, then its statements.
abbrev pub part_lines : NetPart → List ℕ
part_lines part = flat_map process_line part.processes ++ flat_map statement_line part.statements

-- The lines of a subnet, from its beginning to its end.
abbrev pub subnet_lines : List ℕ × NetPart → List ℕ
subnet_lines s = line (word (codes "subnet") ∷ word s.0 ∷ []) ++ part_lines s.1 ++ line (word (codes "end") ∷ [])

-- The header, the subnets in their order, and the lines of the main part.
abbrev pub canonical : NetText → List ℕ
canonical v = header_line v.version ++ flat_map subnet_lines v.subnets ++ part_lines v.main
