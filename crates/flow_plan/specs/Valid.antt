-- What makes a network a valid plan.
use Rattle.flow_limits.specs.declared.TheConstants.{CAPACITY_LIMIT, CAPACITY_SUM_LIMIT, CONNECTION_LIMIT, ELEMENT_LIMIT, PROCESS_LIMIT, SENDER_LIMIT, TEXT_LIMIT}
use Rattle.std.specs.Prelude.{◌≡◌, ◌⊎◌, ℕ, ◌≤◌, Bool, true, false, List, map, length, Some, slice_get}
use Rattle.std.specs.List.{flat_map, sum_by}
use Rattle.flow_plan.specs.declared.kind.PortRef.{PortRef}
use Rattle.flow_plan.specs.declared.plan.Sender.{Sender}
use Rattle.flow_plan.specs.declared.plan.Process.{Process}
use Rattle.flow_plan.specs.declared.plan.Connection.{Connection}
use Rattle.flow_plan.specs.declared.plan.PortRow.{PortRow}
use Rattle.flow_plan.specs.declared.plan.PortTable.{PortTable}
use Rattle.flow_plan.specs.Network.{Network, LaidOut, HasInput, IsInputEnd, IsOutputEnd, elements_of, is_stream}
use Rattle.flow_plan.specs.Texts.{IsOfClass}
use Rattle.flow_plan.specs.Templates.{TemplatesFit}

-- Input i of process p receives from a connection.
pub record HasConnection (n : Network) (p i : ℕ) : Type 0 where
  pub number : ℕ
  pub connection : Connection
  pub here : slice_get n.connections number ≡ Some connection
  pub receiver : connection.receiver ≡ p
  pub input : connection.input ≡ i

-- Input i of process p has an initial text.
pub record HasText (n : Network) (p i : ℕ) : Type 0 where
  pub process : Process
  pub place : ℕ
  pub text : List ℕ
  pub here : slice_get n.processes p ≡ Some process
  pub given : slice_get process.initials place ≡ Some (i, text)

-- Output o of process p is a sender of a connection.
pub record HasSender (n : Network) (p o : ℕ) : Type 0 where
  pub number : ℕ
  pub connection : Connection
  pub place : ℕ
  pub here : slice_get n.connections number ≡ Some connection
  pub sender : slice_get connection.senders place ≡ Some (record { process = p; output = o })

-- Whether each output of a process is needed, by its number.
abbrev pub needs_of : List PortRow → List Bool
needs_of rows = flat_map (λ (row : PortRow). map (λ (port : PortRef). row.spec.needed) (elements_of row)) rows

-- Output o of process p is needed.
pub record NeedsOutput (n : Network) (p o : ℕ) : Type 0 where
  pub table : PortTable
  pub here : slice_get n.tables p ≡ Some table
  pub needed : slice_get (needs_of table.outputs) o ≡ Some true

-- The input port at place i in the table of process p is an option port.
pub record HasOptionPort (n : Network) (p i : ℕ) : Type 0 where
  pub table : PortTable
  pub row : PortRow
  pub here : slice_get n.tables p ≡ Some table
  pub at : slice_get table.inputs i ≡ Some row
  pub option : is_stream row.spec.class ≡ false

-- An option port stands at place i in the table of process p, and needs its text.
pub record NeedsOption (n : Network) (p i : ℕ) : Type 0 where
  pub port : HasOptionPort n p i
  pub needed : port.row.spec.needed ≡ true

-- Process p has an option for the port at place i.
pub record HasOption (n : Network) (p i : ℕ) : Type 0 where
  pub process : Process
  pub place : ℕ
  pub text : List ℕ
  pub here : slice_get n.processes p ≡ Some process
  pub given : slice_get process.options place ≡ Some (i, text)

-- A text that may be an option of process p for the port at place i: an option port stands there, and the text is of its class and isn't too long.
pub record FitsOption (n : Network) (p i : ℕ) (text : List ℕ) : Type 0 where
  pub port : HasOptionPort n p i
  pub class : IsOfClass port.row.spec.class text
  pub short : length text ≤ TEXT_LIMIT

-- Each option fits an option port, an option port that is needed has an option, none has two, and each template is one for its pattern.
pub record HasOptions (n : Network) : Type 0 where
  pub fits : (p k i : ℕ) (x : Process) (text : List ℕ) → slice_get n.processes p ≡ Some x → slice_get x.options k ≡ Some (i, text) → FitsOption n p i text
  pub each_option : (p i : ℕ) → NeedsOption n p i → HasOption n p i
  pub one_option : (p k l i : ℕ) (x : Process) (text other : List ℕ) → slice_get n.processes p ≡ Some x → slice_get x.options k ≡ Some (i, text) → slice_get x.options l ≡ Some (i, other) → k ≡ l
  pub templates : TemplatesFit n

-- An array has from 1 to ELEMENT_LIMIT elements, and every other port has 1.
pub record IsRow (row : PortRow) : Type 0 where
  pub array : row.spec.array ≡ true → (1 ≤ row.elements) × (row.elements ≤ ELEMENT_LIMIT)
  pub single : row.spec.array ≡ false → row.elements ≡ 1

-- Each row of each table has its elements.
pub record HasRows (n : Network) : Type 0 where
  pub inputs : (p i : ℕ) (table : PortTable) (row : PortRow) → slice_get n.tables p ≡ Some table → slice_get table.inputs i ≡ Some row → IsRow row
  pub outputs : (p o : ℕ) (table : PortTable) (row : PortRow) → slice_get n.tables p ≡ Some table → slice_get table.outputs o ≡ Some row → IsRow row

-- A wired plan: every connection and every sender names an input or an output that is there, the automatic ones among them, no input receives from two
-- connections, no output sends twice, each stream input has a connection or an initial text and not both, and the numbers are within their limits. (It is what the machine asks of a plan:
-- names, kinds and options are of no matter to it.)
pub record IsWired (n : Network) : Type 0 where
  pub few_processes : length n.processes ≤ PROCESS_LIMIT
  pub few_connections : length n.connections ≤ CONNECTION_LIMIT
  pub receivers : (c : ℕ) (x : Connection) → slice_get n.connections c ≡ Some x → IsInputEnd n x.receiver x.input
  pub one_receiver : (c d : ℕ) (x y : Connection) → slice_get n.connections c ≡ Some x → slice_get n.connections d ≡ Some y → x.receiver ≡ y.receiver → x.input ≡ y.input → c ≡ d
  pub senders : (c k : ℕ) (x : Connection) (s : Sender) → slice_get n.connections c ≡ Some x → slice_get x.senders k ≡ Some s → IsOutputEnd n s.process s.output
  pub one_sender : (c d k l : ℕ) (x y : Connection) (s : Sender) → slice_get n.connections c ≡ Some x → slice_get n.connections d ≡ Some y → slice_get x.senders k ≡ Some s → slice_get y.senders l ≡ Some s → (c ≡ d) × (k ≡ l)
  pub each_input : (p i : ℕ) → HasInput n p i → HasConnection n p i ⊎ HasText n p i
  pub not_both : (p i : ℕ) → HasConnection n p i → HasText n p i → ⊥
  pub short : (p k i : ℕ) (x : Process) (text : List ℕ) → slice_get n.processes p ≡ Some x → slice_get x.initials k ≡ Some (i, text) → length text ≤ TEXT_LIMIT
  pub capacities : (c : ℕ) (x : Connection) → slice_get n.connections c ≡ Some x → (1 ≤ x.capacity) × (x.capacity ≤ CAPACITY_LIMIT)
  pub few_senders : (c : ℕ) (x : Connection) → slice_get n.connections c ≡ Some x → length x.senders ≤ SENDER_LIMIT

-- A valid plan: it is wired; names differ; only stream inputs have texts, and none has two; each output that is needed sends to a connection; each option is of its port's class, a template
-- besides one for the pattern of its process, and each option port that is needed has one; each port has its elements; and the capacities together are within their limit.
pub record IsValid (n : Network) : Type 0 where
  pub wired : IsWired n
  pub names : (p q : ℕ) (x y : Process) → slice_get n.processes p ≡ Some x → slice_get n.processes q ≡ Some y → x.name ≡ y.name → p ≡ q
  pub laid_out : LaidOut n.processes n.tables
  pub stream_texts : (p i : ℕ) → HasText n p i → HasInput n p i
  pub one_text : (p k l i : ℕ) (x : Process) (text other : List ℕ) → slice_get n.processes p ≡ Some x → slice_get x.initials k ≡ Some (i, text) → slice_get x.initials l ≡ Some (i, other) → k ≡ l
  pub needed_outputs : (p o : ℕ) → NeedsOutput n p o → HasSender n p o
  pub capacity_sum : sum_by (λ (x : Connection). x.capacity) n.connections ≤ CAPACITY_SUM_LIMIT
  pub options : HasOptions n
  pub rows : HasRows n
