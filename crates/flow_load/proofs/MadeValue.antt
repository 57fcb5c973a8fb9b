-- The value that the text of the made network spells.
use Rattle.std.proofs.Common.{◌≡◌, ℕ, List, [], ◌∷◌, map, Some, None, Ok, refl, sym, subst}
use Rattle.std.specs.Prelude.{codes}
use Rattle.std.specs.Str.Lines.{lines}
use Rattle.flow_make.specs.Lines.{text_of}
use Rattle.flow_make.specs.Network.{network_lines}
use Rattle.flow_plan.specs.declared.kind.PortRef.{PortRef}
use Rattle.flow_parse.specs.declared.form.Form.TheVariants as forms
use Rattle.flow_parse.specs.declared.value.Statement.TheVariants.{Connect, Initial}
use Rattle.flow_parse.specs.declared.value.NetPart.{NetPart}
use Rattle.flow_parse.specs.declared.value.NetText.{NetText}
use Rattle.flow_parse.specs.Files.{says, nothing, LeadsTo, Spells}
use Rattle.flow_load.proofs.MadeLines.{Saying, header, connects, connects_element, gives, gives_kinded, lead}

-- A port that is named without an element.
abbrev pub alone : List ℕ → PortRef
alone name = record { name = name; element = None }

-- An element of a port.
abbrev pub numbered : List ℕ → ℕ → PortRef
numbered name number = record { name = name; element = Some number }

-- What the text says: nine processes, in the order in which lines name them first, and the statements in the order of the lines.
abbrev pub made_part : NetPart
made_part = record {
  processes =
      (codes "Read", codes "ReadLines")
      ∷ (codes "Words", codes "Words")
      ∷ (codes "Copy", codes "Copy")
      ∷ (codes "Narrow", codes "Fill")
      ∷ (codes "Wide", codes "Fill")
      ∷ (codes "Count", codes "Count")
      ∷ (codes "A", codes "WriteLines")
      ∷ (codes "B", codes "WriteLines")
      ∷ (codes "C", codes "WriteLines")
      ∷ [];
  statements =
      Initial (codes "in") (codes "Read") (alone (codes "FILE"))
      ∷ Connect (codes "Read") (alone (codes "OUT")) None (codes "Words") (alone (codes "IN"))
      ∷ Connect (codes "Words") (alone (codes "OUT")) None (codes "Copy") (alone (codes "IN"))
      ∷ Connect (codes "Copy") (numbered (codes "OUT") 0) None (codes "Narrow") (alone (codes "IN"))
      ∷ Connect (codes "Copy") (numbered (codes "OUT") 1) None (codes "Wide") (alone (codes "IN"))
      ∷ Connect (codes "Copy") (numbered (codes "OUT") 2) None (codes "Count") (alone (codes "IN"))
      ∷ Initial (codes "20") (codes "Narrow") (alone (codes "SIZE"))
      ∷ Initial (codes "60") (codes "Wide") (alone (codes "SIZE"))
      ∷ Connect (codes "Narrow") (alone (codes "OUT")) None (codes "A") (alone (codes "IN"))
      ∷ Connect (codes "Wide") (alone (codes "OUT")) None (codes "B") (alone (codes "IN"))
      ∷ Connect (codes "Count") (alone (codes "COUNT")) None (codes "C") (alone (codes "IN"))
      ∷ Initial (codes "a") (codes "A") (alone (codes "FILE"))
      ∷ Initial (codes "b") (codes "B") (alone (codes "FILE"))
      ∷ Initial (codes "c") (codes "C") (alone (codes "FILE"))
      ∷ [];
}

-- The value has no subnets.
abbrev pub made_value : NetText
made_value = record { version = 1; subnets = []; main = made_part }

-- The lines behind the header, with what they say.
abbrev made_lines : List Saying
made_lines =
    gives_kinded (codes "in") (codes "FILE") (codes "Read") (codes "ReadLines") refl
    ∷ connects (codes "Read") (codes "OUT") (codes "IN") (codes "Words") (codes "Words") refl refl
    ∷ connects (codes "Words") (codes "OUT") (codes "IN") (codes "Copy") (codes "Copy") refl refl
    ∷ connects_element (codes "Copy") (codes "OUT") (codes "0") (codes "IN") (codes "Narrow") (codes "Fill") refl refl
    ∷ connects_element (codes "Copy") (codes "OUT") (codes "1") (codes "IN") (codes "Wide") (codes "Fill") refl refl
    ∷ connects_element (codes "Copy") (codes "OUT") (codes "2") (codes "IN") (codes "Count") (codes "Count") refl refl
    ∷ gives (codes "20") (codes "SIZE") (codes "Narrow") refl
    ∷ gives (codes "60") (codes "SIZE") (codes "Wide") refl
    ∷ connects (codes "Narrow") (codes "OUT") (codes "IN") (codes "A") (codes "WriteLines") refl refl
    ∷ connects (codes "Wide") (codes "OUT") (codes "IN") (codes "B") (codes "WriteLines") refl refl
    ∷ connects (codes "Count") (codes "COUNT") (codes "IN") (codes "C") (codes "WriteLines") refl refl
    ∷ gives (codes "a") (codes "FILE") (codes "A") refl
    ∷ gives (codes "b") (codes "FILE") (codes "B") refl
    ∷ gives (codes "c") (codes "FILE") (codes "C") refl
    ∷ []

cut : lines (text_of network_lines) ≡ codes "flow 1" ∷ map (λ (l : Saying). l.line) made_lines
unfolding text_of network_lines
cut = refl

led : LeadsTo 1 None (codes "flow 1" ∷ map (λ (l : Saying). l.line) made_lines) (Ok made_value)
led = (says (forms.Header 1), header, lead 2 (nothing 1) made_lines (Ok made_value) refl refl refl)

-- The text of the made network spells its value.
pub spelled : Spells (text_of network_lines) made_value
spelled = subst (λ (l : List (List ℕ)). LeadsTo 1 None l (Ok made_value)) (sym cut) led
