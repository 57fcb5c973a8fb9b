-- What a reader stands for.
use Rattle.flow_limits.specs.declared.TheConstants.{STATEMENT_LIMIT}
use Rattle.std.specs.Prelude.{◌≡◌, ℕ, ◌≤◌, List, [], ◌∷◌, ◌++◌, map, Option, Some, None, Result, Ok, Err, Bool, true, false}
use Rattle.flow_parse.specs.declared.form.Form.{Form}
use Rattle.flow_parse.specs.declared.fault.NetFault.{NetFault}
use Rattle.flow_parse.specs.declared.fault.ParseStop.{ParseStop}
use Rattle.flow_parse.specs.declared.fault.ParseStop.TheVariants as stops
use Rattle.flow_parse.specs.declared.value.NetPart.{NetPart}
use Rattle.flow_parse.specs.declared.value.NetText.{NetText}
use Rattle.flow_parse.specs.declared.reader.Part.{Part}
use Rattle.flow_parse.specs.declared.reader.OpenPart.{OpenPart}
use Rattle.flow_parse.specs.declared.reader.Reader.{Reader}
use Rattle.flow_parse.specs.Files.{Lines, Open, Parts, nothing, Said, says, LineIs, version_of, mentions_in, processes_in, statements_in, statement_count, value_of, after, kinds_agree, mentions_of, lines_now, IsAdded, ended, may_stand, fault_at, reason_at, with_line}
use Rattle.flow_parse.specs.declared.form.Form.TheVariants.{Header}
use Rattle.flow_parse.specs.declared.stop.LineStop.{LineStop}
use Rattle.flow_parse.specs.declared.stop.LineStop.TheVariants as line_stops
use Rattle.flow_parse.specs.Names.{is_named, is_numbered}
use Rattle.flow_parse.specs.declared.fault.Reason.{Reason}
use Rattle.flow_parse.specs.declared.fault.Reason.TheVariants as reasons

-- The part has read these lines.
pub record IsPart (part : Part) (lines : Lines) : Type 0 where
  pub known : part.known ≡ processes_in (mentions_in lines)
  pub statements : part.statements.items ≡ statements_in lines

-- The subnet that has begun has read these lines, or none has begun.
abbrev pub IsOpen : Option OpenPart → Option Open → Type 0
IsOpen None None = Unit {0}
IsOpen (Some p) (Some o) = (p.line ≡ o.line) × (p.name ≡ o.name) × IsPart p.part o.lines
IsOpen _ _ = ⊥

-- The reader, behind the header, has read these parts.
pub record HasRead (reader : Reader) (parts : Parts) : Type 0 where
  pub headed : reader.headed ≡ true
  pub version : reader.version ≡ parts.version
  pub main : IsPart reader.main parts.main
  pub subnets : reader.subnets ≡ map (λ s. (s.0, value_of s.1)) parts.subnets
  pub open_part : IsOpen reader.open_part parts.open_part
  pub count : reader.statements ≡ statement_count parts
  pub within : reader.statements ≤ STATEMENT_LIMIT

-- The reader stands for what comes before the next line.
abbrev pub Stands : Reader → Option Parts → Type 0
Stands reader None = (reader.headed ≡ false) × HasRead (record reader { headed = true }) (nothing 1)
Stands reader (Some parts) = HasRead reader parts

-- The version that a header says.
abbrev pub version_in : Form → Option ℕ
version_in (Header version) = Some version
version_in _ = None

-- The reason for which a line that says nothing is refused.
abbrev pub reason_of : LineStop → Reason
reason_of line_stops.Quote = reasons.Quote
reason_of line_stops.Form = reasons.Form
reason_of _ = reasons.Byte

-- What comes of a line that says nothing.
abbrev pub StopsAs : Bool → ℕ → LineStop → ParseStop → Type 0
StopsAs headed n line_stops.NoMemory result = result ≡ stops.NoMemory
StopsAs true n stop result = result ≡ stops.Fault (record { line = n; reason = reason_of stop })
StopsAs false n stop result = result ≡ stops.Fault (record { line = n; reason = reasons.Header })

-- For each thing that the reader stood for: this is what comes after a line that says form.
abbrev pub Heeds : Reader → ℕ → Form → Reader → Result (Unit {0}) ParseStop → Type 0
Heeds old n form new (Ok u) = (before : Option Parts) → Stands old before → (next : Option Parts) × (after n before (says form) ≡ Ok next) × Stands new next
Heeds old n form new (Err (stops.Fault fault)) = (before : Option Parts) → Stands old before → after n before (says form) ≡ Err fault
Heeds old n form new (Err stops.NoMemory) = Unit {0}

-- For each thing that the reader stood for: the line is something, and this is what comes after it.
abbrev pub Reads : Reader → ℕ → List ℕ → Reader → Result (Unit {0}) ParseStop → Type 0
Reads old n line new (Ok u) = (before : Option Parts) → Stands old before → (said : Said) × (next : Option Parts) × LineIs (version_of before) line said × (after n before said ≡ Ok next) × Stands new next
Reads old n line new (Err (stops.Fault fault)) = (before : Option Parts) → Stands old before → (said : Said) × LineIs (version_of before) line said × (after n before said ≡ Err fault)
Reads old n line new (Err stops.NoMemory) = Unit {0}

-- Adding a line to a part: false where a process gets a second kind.
abbrev pub AddsLine : Part → ℕ → Form → Part → Bool → Type 0
AddsLine old n form new true = (lines : Lines) → IsPart old lines → (kinds_agree (map (λ k. k.1) (mentions_in lines)) (mentions_of form) ≡ true) × IsPart new (lines ++ (n, form) ∷ [])
AddsLine old n form new false = (lines : Lines) → IsPart old lines → kinds_agree (map (λ k. k.1) (mentions_in lines)) (mentions_of form) ≡ false

-- The reader has read these parts, whatever it counts.
pub record HasParts (reader : Reader) (parts : Parts) : Type 0 where
  pub headed : reader.headed ≡ true
  pub version : reader.version ≡ parts.version
  pub main : IsPart reader.main parts.main
  pub subnets : reader.subnets ≡ map (λ s. (s.0, value_of s.1)) parts.subnets
  pub open_part : IsOpen reader.open_part parts.open_part

-- Adding a line to the part that it belongs to: false where a process gets a second kind.
abbrev pub AddsNow : Reader → ℕ → Form → Reader → Bool → Type 0
AddsNow old n form new true = (parts : Parts) → HasRead old parts → IsAdded form
    → (kinds_agree (map (λ k. k.1) (mentions_in (lines_now parts))) (mentions_of form) ≡ true) × HasParts new (with_line parts n form) × (new.statements ≡ old.statements)
AddsNow old n form new false = (parts : Parts) → HasRead old parts → IsAdded form
    → kinds_agree (map (λ k. k.1) (mentions_in (lines_now parts))) (mentions_of form) ≡ false

-- The end of a part: its value, or the line that first mentions a process without a kind.
abbrev pub Finishes : Part → Result NetPart ℕ → Type 0
Finishes part (Ok value) = (lines : Lines) → IsPart part lines → (ended lines ≡ None) × (value ≡ value_of lines)
Finishes part (Err n) = (lines : Lines) → IsPart part lines → ended lines ≡ Some (record { line = n; reason = reasons.Kind })

-- Taking what the line number n says, where it may stand and its names and numbers are right.
abbrev pub Passes : Parts → Form → Type 0
Passes parts form = (may_stand parts form ≡ true) × (is_named form ≡ true) × (is_numbered parts.version form ≡ true)

-- The reason is the first for which the line is refused, or the line may stand here and is said well.
abbrev pub RefusesFor : Option Reason → Parts → Form → Type 0
RefusesFor None parts form = Passes parts form
RefusesFor (Some reason) parts form = reason_at parts form ≡ Some reason

-- For each thing that the reader has read and that meets P: the fault of the next line, or what is read behind it.
abbrev pub Takes : (Parts → Type 0) → Reader → ℕ → Form → Reader → Result (Unit {0}) ParseStop → Type 0
Takes P old n form new (Ok u) = (parts : Parts) → HasRead old parts → P parts → (fault_at n parts form ≡ None) × HasRead new (with_line parts n form)
Takes P old n form new (Err (stops.Fault fault)) = (parts : Parts) → HasRead old parts → P parts → fault_at n parts form ≡ Some fault
Takes P old n form new (Err stops.NoMemory) = Unit {0}

-- What a call answered is this outcome, unless memory ran out.
abbrev pub Gives : Result NetText ParseStop → (Result NetText NetFault → Type 0) → Type 0
Gives (Ok value) P = P (Ok value)
Gives (Err (stops.Fault fault)) P = P (Err fault)
Gives (Err stops.NoMemory) P = Unit {0}

-- What is said of the fault, unless memory ran out.
abbrev pub IfFault : ParseStop → (NetFault → Type 0) → Type 0
IfFault (stops.Fault fault) P = P fault
IfFault stops.NoMemory P = Unit {0}
