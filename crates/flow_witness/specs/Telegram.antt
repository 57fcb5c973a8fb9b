-- The Telegram Problem of Naur and Morrison as a composition, with the values of one worked run: the network that its file stands for, its components, the packets
-- on its connections, and the file that it means.
use Rattle.flow_limits.specs.declared.TheConstants.{TEXT_LIMIT}
use Rattle.std.specs.Prelude.{◌≡◌, ℕ, zero, suc, true, false, List, [], ◌∷◌, map, codes, Some, None, Ok}
use Rattle.std.specs.Str.Lines.{lines}
use Rattle.flow_component.specs.Runs.{text_packet}
use Rattle.flow_plan.specs.declared.kind.PortClass.{PortClass}
use Rattle.flow_plan.specs.declared.kind.PortClass.TheVariants.{Stream, Number, File}
use Rattle.flow_plan.specs.declared.kind.PortRef.{PortRef}
use Rattle.flow_plan.specs.declared.plan.PortRow.{PortRow}
use Rattle.flow_plan.specs.declared.plan.Connection.{Connection}
use Rattle.flow_plan.specs.Network.{Network}
use Rattle.flow_parse.specs.declared.value.NetPart.{NetPart}
use Rattle.flow_parse.specs.declared.value.Statement.TheVariants.{Connect, Initial}
use Rattle.flow_flat.specs.Faults.{ComesTo}
use Rattle.flow_parts.specs.declared.words.Words.TheVariants as words_parts
use Rattle.flow_parts.specs.Meanings.{fresh_fill}
use Rattle.flow_catalogue.specs.Kinds.{std_kinds}
use Rattle.flow_catalogue.specs.declared.standard.Std.{Std}
use Rattle.flow_catalogue.specs.declared.standard.Std.TheVariants as components
use Rattle.flow_meanings.specs.Composition.{Sending, Composes}
use Rattle.flow_determinate.specs.Standard.{AreFirstOf}

-- A port that is named without an element.
abbrev pub port_named : List ℕ → PortRef
port_named name = record { name = name; element = None }

-- What the network file says: a reader, a Words, a Fill for lines of 12 bytes, and a writer, with a connection of capacity 20 between the two in the middle.
abbrev pub telegram_component : NetPart
telegram_component = record {
  processes = (codes "Read", codes "ReadLines") ∷ (codes "Words", codes "Words") ∷ (codes "Fill", codes "Fill") ∷ (codes "Write", codes "WriteLines") ∷ [];
  statements =
      Initial (codes "in.txt") (codes "Read") (port_named (codes "FILE"))
      ∷ Connect (codes "Read") (port_named (codes "OUT")) None (codes "Words") (port_named (codes "IN"))
      ∷ Connect (codes "Words") (port_named (codes "OUT")) (Some 20) (codes "Fill") (port_named (codes "IN"))
      ∷ Initial (codes "12") (codes "Fill") (port_named (codes "SIZE"))
      ∷ Connect (codes "Fill") (port_named (codes "OUT")) None (codes "Write") (port_named (codes "IN"))
      ∷ Initial (codes "out.txt") (codes "Write") (port_named (codes "FILE"))
      ∷ [];
}

-- A port that has to be bound, and isn't an array.
abbrev pub plain_row : List ℕ → PortClass → PortRow
plain_row name class = record { spec = record { name = name; class = class; array = false; needed = true }; elements = 1 }

-- A connection from output 0 of a process to input 0 of another.
abbrev pub link : ℕ → ℕ → ℕ → Connection
link sender receiver capacity = record { receiver = receiver; input = 0; capacity = capacity; senders = record { process = sender; output = 0 } ∷ [] }

-- Its plan.
abbrev pub telegram : Network
telegram = record {
  processes =
      record { name = codes "Read"; kind = codes "ReadLines"; options = (0, codes "in.txt") ∷ []; initials = []; inputs = 0; outputs = 1 }
      ∷ record { name = codes "Words"; kind = codes "Words"; options = []; initials = []; inputs = 1; outputs = 1 }
      ∷ record { name = codes "Fill"; kind = codes "Fill"; options = (0, codes "12") ∷ []; initials = []; inputs = 1; outputs = 1 }
      ∷ record { name = codes "Write"; kind = codes "WriteLines"; options = (0, codes "out.txt") ∷ []; initials = []; inputs = 1; outputs = 0 }
      ∷ [];
  connections = link 0 1 10 ∷ link 1 2 20 ∷ link 2 3 10 ∷ [];
  tables =
      record { inputs = plain_row (codes "FILE") File ∷ []; outputs = plain_row (codes "OUT") Stream ∷ [] }
      ∷ record { inputs = plain_row (codes "IN") Stream ∷ []; outputs = plain_row (codes "OUT") Stream ∷ [] }
      ∷ record { inputs = plain_row (codes "SIZE") (Number 1 TEXT_LIMIT) ∷ plain_row (codes "IN") Stream ∷ []; outputs = plain_row (codes "OUT") Stream ∷ [] }
      ∷ record { inputs = plain_row (codes "FILE") File ∷ plain_row (codes "IN") Stream ∷ []; outputs = [] }
      ∷ [];
}

-- The lines of the input file.
abbrev pub telegram_input : List (List ℕ)
telegram_input = lines (codes "To be or not to be\nthat is the question\n")

-- Its components: the reader has these lines.
abbrev pub telegram_components : List Std
telegram_components = components.ReadLines telegram_input ∷ components.Words words_parts.Waiting ∷ components.Fill (fresh_fill 12) ∷ components.WriteLines [] ∷ []

-- What is on the connections, by process that sends: the lines of the input, their words, and the lines of the telegram.
abbrev pub texts_from : ℕ → List (List ℕ)
texts_from zero = codes "To be or not to be" ∷ codes "that is the question" ∷ []
texts_from (suc zero) = codes "To" ∷ codes "be" ∷ codes "or" ∷ codes "not" ∷ codes "to" ∷ codes "be" ∷ codes "that" ∷ codes "is" ∷ codes "the" ∷ codes "question" ∷ []
texts_from (suc (suc zero)) = codes "To be or not" ∷ codes "to be that" ∷ codes "is the" ∷ codes "question" ∷ []
texts_from (suc (suc (suc p))) = []

-- A Normal packet with this text, from output 0 of process p.
abbrev pub sent_by : ℕ → List ℕ → Sending
sent_by p text = record { sender = record { process = p; output = 0 }; content = text_packet text }

-- What goes over each connection.
abbrev pub telegram_on : ℕ → List Sending
telegram_on c = map (sent_by c) (texts_from c)

-- The file that the writer leaves; the others write none.
abbrev pub telegram_wrote : ℕ → List ℕ
telegram_wrote zero = []
telegram_wrote (suc zero) = []
telegram_wrote (suc (suc zero)) = []
telegram_wrote (suc (suc (suc zero))) = codes "To be or not\nto be that\nis the\nquestion\n"
telegram_wrote (suc (suc (suc (suc p)))) = []

-- The network is the plan of that text; the components are those of its processes on that input; they have a composition, with these packets on the connections, in
-- which the writer has that file; and in each composition it has that file.
pub record TelegramComposes : Type 0 where
  pub planned : ComesTo std_kinds telegram_component (Ok telegram)
  pub are_components : AreFirstOf telegram telegram_components
  pub composes : Composes telegram telegram_components telegram_wrote
  pub streams : composes.on ≡ telegram_on
  pub only : (wrote : ℕ → List ℕ) → Composes telegram telegram_components wrote → wrote 3 ≡ codes "To be or not\nto be that\nis the\nquestion\n"
