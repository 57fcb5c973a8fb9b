-- Which value a file spells, and which fault it has.
use Rattle.flow_limits.specs.declared.TheConstants.{STATEMENT_LIMIT, TEXT_LIMIT}
use Rattle.std.specs.Prelude.{◌≡◌, ℕ, ◌+◌, List, [], ◌∷◌, ◌++◌, map, length, Option, Some, None, Result, Ok, Err, Bool, true, false, ◌&&◌, nat_le, not, if◌then◌else◌, is_some, is_none, unwrap_or, MatchResult, option_map, option_and_then, filter}
use Rattle.std.specs.Str.{bytes_eq}
use Rattle.std.specs.Str.Lines.{lines}
use Rattle.std.specs.List.{flat_map, list_any, sum_by}
use Rattle.flow_parse.specs.declared.value.TheConstants.{FIRST_VERSION}
use Rattle.flow_parse.specs.declared.token.Token.{Token}
use Rattle.flow_parse.specs.declared.form.Mention.{Mention}
use Rattle.flow_parse.specs.declared.form.PortMention.{PortMention}
use Rattle.flow_parse.specs.declared.form.EndMention.{EndMention}
use Rattle.flow_parse.specs.declared.form.EndMention.TheVariants.{Port, Automatic}
use Rattle.flow_parse.specs.declared.form.Form.{Form}
use Rattle.flow_parse.specs.declared.form.Form.TheVariants.{Header, Process, Connection, Initial, Subnet, End, InPort, OutPort}
use Rattle.flow_parse.specs.declared.table.MentionedProcess.{MentionedProcess}
use Rattle.flow_parse.specs.declared.stop.LineStop.{LineStop}
use Rattle.flow_parse.specs.declared.stop.LineStop.TheVariants as stops
use Rattle.flow_parse.specs.declared.fault.Reason.{Reason}
use Rattle.flow_parse.specs.declared.fault.Reason.TheVariants as reasons
use Rattle.flow_parse.specs.declared.fault.NetFault.{NetFault}
use Rattle.flow_plan.specs.declared.kind.PortRef.{PortRef}
use Rattle.flow_plan.specs.Network.{automatic_input, automatic_output}
use Rattle.flow_parse.specs.declared.value.Statement.{Statement}
use Rattle.flow_parse.specs.declared.value.Statement.TheVariants as statement
use Rattle.flow_parse.specs.declared.value.NetPart.{NetPart}
use Rattle.flow_parse.specs.declared.value.NetText.{NetText}
use Rattle.flow_parse.specs.Spelling.{Blank, IsRow, HasBadByte, HasOpenQuote}
use Rattle.flow_parse.specs.Forms.{IsForm}
use Rattle.flow_parse.specs.Names.{is_named, is_numbered, capacity_of, element_of}

-- Nothing, or the byte # and anything behind it.
abbrev pub BeginsRemark : List ℕ → Type 0
BeginsRemark [] = Unit {0}
BeginsRemark (b ∷ bs) = b ≡ 35

-- Blanks alone, or # behind them.
abbrev pub IsRemark : List ℕ → Type 0
IsRemark line = (blanks rest : List ℕ) × (line ≡ blanks ++ rest) × Blank blanks × BeginsRemark rest

-- A line is a remark, says something, or is wrong whatever stands before it.
pub data Said : Type 0 where
  remark : Said
  says : Form → Said
  wrong : Reason → Said

-- In a file of this version a line says a form where it is a row of tokens that spells it. One that is no remark is wrong where it has a
-- bad byte or an open quote, or is a row that spells no form.
abbrev pub LineIs : ℕ → List ℕ → Said → Type 0
LineIs version line remark = IsRemark line
LineIs version line (says form) = (row : List Token) × IsRow version line row × IsForm row form
LineIs version line (wrong reasons.Byte) = (IsRemark line → ⊥) × HasBadByte version line
LineIs version line (wrong reasons.Quote) = (IsRemark line → ⊥) × HasOpenQuote version line
LineIs version line (wrong reasons.Form) = (IsRemark line → ⊥) × (row : List Token) × IsRow version line row × ((form : Form) → IsForm row form → ⊥)
LineIs version line (wrong _) = ⊥

-- What reading a line answers is what it is.
abbrev pub Tells : ℕ → List ℕ → Result (Option Form) LineStop → Type 0
Tells version line (Ok None) = LineIs version line remark
Tells version line (Ok (Some form)) = LineIs version line (says form)
Tells version line (Err stops.Byte) = LineIs version line (wrong reasons.Byte)
Tells version line (Err stops.Quote) = LineIs version line (wrong reasons.Quote)
Tells version line (Err stops.Form) = LineIs version line (wrong reasons.Form)
Tells version line (Err stops.NoMemory) = Unit {0}

-- Lines with their numbers.
abbrev pub Lines : Type 0
Lines = List (ℕ × Form)

-- Lines from a subnet line on belong to that subnet, and the subnet's line to none.
pub record Open : Type 0 where
  pub line : ℕ
  pub name : List ℕ
  pub lines : Lines

-- What stands before a line: the version that the header says, the lines of the main part, the subnets that have ended, and the one that
-- has begun.
pub record Parts : Type 0 where
  pub version : ℕ
  pub main : Lines
  pub subnets : List (List ℕ × Lines)
  pub open_part : Option Open

-- No part has a line yet.
abbrev pub nothing : ℕ → Parts
nothing version = record { version = version; main = []; subnets = []; open_part = None }

-- A line goes to the subnet that has begun, or else to the main part.
abbrev pub put_into : Parts → Option Open → (ℕ × Form) → Parts
put_into parts None line = record parts { main = parts.main ++ line ∷ [] }
put_into parts (Some o) line = record parts { open_part = Some (record o { lines = o.lines ++ line ∷ [] }) }

-- A subnet that has begun has ended.
abbrev pub close : Parts → Option Open → Parts
close parts None = parts
close parts (Some o) = record parts { subnets = parts.subnets ++ (o.name, o.lines) ∷ []; open_part = None }

-- What stands before the next line, behind one that says this.
abbrev pub with_line : Parts → ℕ → Form → Parts
with_line parts n (Subnet name) = record parts { open_part = Some (record { line = n; name = name; lines = [] }) }
with_line parts n End = close parts parts.open_part
with_line parts n form = put_into parts parts.open_part (n, form)

-- The lines of the part that the next line belongs to.
abbrev pub lines_now : Parts → Lines
lines_now parts = lines_of parts.main parts.open_part where
  lines_of : Lines → Option Open → Lines
  lines_of main None = main
  lines_of main (Some o) = o.lines

-- The processes that a line names, in their order.
abbrev pub mentions_of : Form → List Mention
mentions_of (Process name kind) = record { name = name; kind = Some kind } ∷ []
mentions_of (Connection from out capacity into to) = from ∷ to ∷ []
mentions_of (Initial text into to) = to ∷ []
mentions_of (InPort outer into to) = to ∷ []
mentions_of (OutPort from out outer) = from ∷ []
mentions_of _ = []

-- The kind that some mention gives.
abbrev pub kind_in : List ℕ → List Mention → Option (List ℕ)
kind_in name [] = None
kind_in name (m ∷ ms) = if bytes_eq m.name name && is_some m.kind then m.kind else kind_in name ms

-- Each mention in lines, with the number of its line.
abbrev pub mentions_in : Lines → List (ℕ × Mention)
mentions_in lines = flat_map (λ l. map (λ m. (l.0, m)) (mentions_of l.1)) lines

-- The mentions of names that no earlier one has.
abbrev pub first_mentions : List (ℕ × Mention) → List (ℕ × Mention)
first_mentions [] = []
first_mentions (m ∷ ms) = m ∷ filter (λ k. not (bytes_eq m.1.name k.1.name)) (first_mentions ms)

-- A process of a part: where it is first mentioned, and the kind that some mention gives.
abbrev pub processes_in : List (ℕ × Mention) → List MentionedProcess
processes_in ms = map (λ m. record { line = m.0; name = m.1.name; kind = kind_in m.1.name (map (λ k. k.1) ms) }) (first_mentions ms)

-- The line that first mentions a process without a kind.
abbrev pub kindless_line : List MentionedProcess → Option ℕ
kindless_line [] = None
kindless_line (p ∷ ps) = if is_none p.kind then Some p.line else kindless_line ps

-- A kind may be given where none is known, or the same.
abbrev pub may_be : Option (List ℕ) → Option (List ℕ) → Bool
may_be (Some known) (Some kind) = bytes_eq known kind
may_be _ _ = true

-- Each mention gives no kind, or none before it gives its process another.
abbrev pub kinds_agree : List Mention → List Mention → Bool
kinds_agree before [] = true
kinds_agree before (m ∷ ms) = may_be (kind_in m.name before) m.kind && kinds_agree (before ++ m ∷ []) ms

-- A port of the value: its name and the number of its element.
abbrev pub port_ref : PortMention → PortRef
port_ref p = record { name = p.name; element = option_and_then element_of p.element }

-- What a connection names as its output: a port, or the automatic one.
abbrev pub output_ref : EndMention → PortRef
output_ref (Port p) = port_ref p
output_ref Automatic = automatic_output

-- What it names as its input.
abbrev pub input_ref : EndMention → PortRef
input_ref (Port p) = port_ref p
input_ref Automatic = automatic_input

-- The statement that a line adds to its part, where it is one.
abbrev pub statements_of : Form → List Statement
statements_of (Connection from out capacity into to) = statement.Connect from.name (output_ref out) (option_and_then capacity_of capacity) to.name (input_ref into) ∷ []
statements_of (Initial text into to) = statement.Initial text to.name (port_ref into) ∷ []
statements_of (InPort outer into to) = statement.InPort outer to.name (port_ref into) ∷ []
statements_of (OutPort from out outer) = statement.OutPort from.name (port_ref out) outer ∷ []
statements_of _ = []

-- The statements of these lines, in their order.
abbrev pub statements_in : Lines → List Statement
statements_in lines = flat_map (λ l. statements_of l.1) lines

-- The number of statements in the file so far.
abbrev pub statement_count : Parts → ℕ
statement_count parts = length (statements_in parts.main) + sum_by (λ s. length (statements_in s.1)) parts.subnets + open_count parts.open_part where
  open_count : Option Open → ℕ
  open_count None = 0
  open_count (Some o) = length (statements_in o.lines)

-- The reason of the first test that fails.
abbrev pub first_failing : List (Bool × Reason) → Option Reason
first_failing [] = None
first_failing (t ∷ ts) = if t.0 then first_failing ts else Some t.1

-- A header stands nowhere but first; a subnet begins in the main part; an end and outer ports stand in a subnet.
abbrev pub may_stand : Parts → Form → Bool
may_stand parts (Header version) = false
may_stand parts (Subnet name) = is_none parts.open_part
may_stand parts End = is_some parts.open_part
may_stand parts (InPort outer into to) = is_some parts.open_part
may_stand parts (OutPort from out outer) = is_some parts.open_part
may_stand parts _ = true

-- No subnet before has this name.
abbrev pub is_new_subnet : Parts → Form → Bool
is_new_subnet parts (Subnet name) = not (list_any (λ s. bytes_eq s.0 name) parts.subnets)
is_new_subnet parts _ = true

-- A quoted text stands for at most TEXT_LIMIT bytes.
abbrev pub text_fits : Form → Bool
text_fits (Initial text into to) = nat_le (length text) TEXT_LIMIT
text_fits _ = true

-- The text fits, and with this the file has at most STATEMENT_LIMIT statements.
abbrev pub is_within_limits : Parts → Form → Bool
is_within_limits parts form = text_fits form && nat_le (statement_count parts + length (statements_of form)) STATEMENT_LIMIT

-- The first reason for which a line is refused, where it says this behind these parts.
abbrev pub reason_at : Parts → Form → Option Reason
reason_at before form = first_failing (
    (may_stand before form, reasons.Form)
    ∷ (is_named form, reasons.Name)
    ∷ (is_numbered before.version form, reasons.Number)
    ∷ (kinds_agree (map (λ k. k.1) (mentions_in (lines_now before))) (mentions_of form), reasons.Kind)
    ∷ (is_new_subnet before form, reasons.Subnet)
    ∷ (is_within_limits before form, reasons.Limit)
    ∷ [])

-- An end, of a subnet or of the file: each process has a kind, or the line of the first without one is refused.
abbrev pub ended : Lines → Option NetFault
ended lines = option_map (λ n. record { line = n; reason = reasons.Kind }) (kindless_line (processes_in (mentions_in lines)))

-- The fault that the file has at this line: the line is refused, or it ends a subnet that has a process without a kind.
abbrev pub fault_at : ℕ → Parts → Form → Option NetFault
fault_at n before form = of_reason (reason_at before form) form where
  of_reason : Option Reason → Form → Option NetFault
  of_reason (Some reason) form = Some (record { line = n; reason = reason })
  of_reason None End = ended (lines_now before)
  of_reason None _ = None

-- The value of a part: its processes with their kinds, and its statements.
abbrev pub value_of : Lines → NetPart
value_of lines = record { processes = map (λ p. (p.name, unwrap_or p.kind [])) (processes_in (mentions_in lines)); statements = statements_in lines }

-- The fault, or else what there is without one.
abbrev pub or_fault : {A : Type 0} → Option NetFault → A → Result A NetFault
or_fault None x = Ok x
or_fault (Some fault) x = Err fault

-- What the line number n makes of what stands before it: nothing yet but remarks, or the header and parts.
abbrev pub after : ℕ → Option Parts → Said → Result (Option Parts) NetFault
after n before remark = Ok before
after n None (says (Header version)) = Ok (Some (nothing version))
after n None _ = Err (record { line = n; reason = reasons.Header })
after n (Some parts) (wrong reason) = Err (record { line = n; reason = reason })
after n (Some parts) (says form) = or_fault (fault_at n parts form) (Some (with_line parts n form))

-- What the end of the file makes of it, where n is one more than the number of lines.
abbrev pub at_end : ℕ → Option Parts → Result NetText NetFault
at_end n None = Err (record { line = n; reason = reasons.Header })
at_end n (Some parts) = of_open parts.open_part where
  of_open : Option Open → Result NetText NetFault
  of_open (Some o) = Err (record { line = o.line; reason = reasons.Subnet })
  of_open None = or_fault (ended parts.main) (record { version = parts.version; subnets = map (λ s. (s.0, value_of s.1)) parts.subnets; main = value_of parts.main })

-- The version by which the next line is read: before the header it is the first.
abbrev pub version_of : Option Parts → ℕ
version_of None = FIRST_VERSION
version_of (Some parts) = parts.version

-- The lines from number n on lead to this outcome: the value, or the fault of the first line that has one.
abbrev pub LeadsTo : ℕ → Option Parts → List (List ℕ) → Result NetText NetFault → Type 0
LeadsTo n before [] outcome = at_end n before ≡ outcome
LeadsTo n before (line ∷ more) outcome = (said : Said) × LineIs (version_of before) line said
    × MatchResult (after n before said) (λ parts. LeadsTo (n + 1) parts more outcome) (λ fault. outcome ≡ Err fault)

-- The bytes spell the value.
abbrev pub Spells : List ℕ → NetText → Type 0
Spells bytes value = LeadsTo 1 None (lines bytes) (Ok value)

-- The bytes are refused for this reason at this line.
abbrev pub Refused : List ℕ → NetFault → Type 0
Refused bytes fault = LeadsTo 1 None (lines bytes) (Err fault)

-- What belongs to its part, unlike a header, a subnet's line and an end.
abbrev pub IsAdded : Form → Type 0
IsAdded (Header version) = ⊥
IsAdded (Subnet name) = ⊥
IsAdded End = ⊥
IsAdded _ = Unit {0}
