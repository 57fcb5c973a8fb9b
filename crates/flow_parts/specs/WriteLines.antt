-- The component that writes what it gets to a file. Its state is the bytes that are written.
use Rattle.std.specs.Prelude.{◌≡◌, ℕ, List, [], ◌∷◌, ◌++◌}
use Rattle.flow_packet.specs.declared.packet.Kind.{Kind}
use Rattle.flow_packet.specs.declared.packet.Kind.TheVariants as kinds
use Rattle.flow_packet.specs.Hands.{kind_at, text_at}
use Rattle.flow_packet.specs.Held.{Held, without_packet}
use Rattle.flow_component.specs.declared.Answer.{Answer}
use Rattle.flow_component.specs.declared.Answer.TheVariants as answers
use Rattle.flow_component.specs.declared.Wish.TheVariants.{Deactivate}
use Rattle.flow_component.specs.Laws.{Rules, Outcome, Wishes}
use Rattle.flow_component.specs.Ports.{one_to_none, uses_none, receive_first}
use Rattle.flow_component.specs.Outcomes.{IsAtHand}

-- A packet as a line: its text, behind a parenthesis for a bracket, and a line feed.
abbrev pub rendered : Kind → List ℕ → List ℕ
rendered kinds.Normal text = text ++ 10 ∷ []
rendered kinds.Open text = 40 ∷ text ++ 10 ∷ []
rendered kinds.Close text = 41 ∷ text ++ 10 ∷ []

-- It receives; it appends what it got to the bytes, drops it, and receives again; at the end it deactivates.
abbrev pub writes : List ℕ → Held → Answer → Outcome (List ℕ)
writes bytes held answers.Start = Wishes bytes held receive_first
writes bytes held (answers.Got id) = Wishes (bytes ++ rendered (kind_at held.packets id) (text_at held.packets id)) (without_packet held id) receive_first
writes bytes held answers.End = Wishes bytes held Deactivate
writes bytes held answers.Sent = Wishes bytes held receive_first
writes bytes held (answers.Level n) = Wishes bytes held Deactivate

-- It comes to this alone.
abbrev pub WriteLinesNext : List ℕ → Held → Answer → Outcome (List ℕ) → Type 0
WriteLinesNext bytes held answer outcome = outcome ≡ writes bytes held answer

-- All that a network knows of it.
abbrev pub write_lines_rules : Rules (List ℕ)
write_lines_rules = record { shape = λ _. one_to_none; uses = λ _. uses_none; ready = λ _. IsAtHand; next = WriteLinesNext }
