-- The component that sends the lines of a file. Its state is the lines that are left.
use Rattle.flow_limits.specs.declared.TheConstants.{TEXT_LIMIT}
use Rattle.std.specs.Prelude.{◌≡◌, ℕ, List, [], ◌∷◌, length, nat_lt, if◌then◌else◌}
use Rattle.flow_packet.specs.declared.packet.Kind.TheVariants.{Normal}
use Rattle.flow_packet.specs.Held.{Held, next_id, with_made}
use Rattle.flow_component.specs.declared.Answer.{Answer}
use Rattle.flow_component.specs.declared.Answer.TheVariants as answers
use Rattle.flow_component.specs.declared.Wish.TheVariants.{Deactivate}
use Rattle.flow_component.specs.declared.Fail.TheVariants.{TextLimit}
use Rattle.flow_component.specs.Laws.{Rules, Outcome, Wishes, Fails}
use Rattle.flow_component.specs.Ports.{none_to_one, uses_first, send_first}

-- It makes a Normal packet of the next line and sends it, and deactivates where there is no line. A line that is too long for a packet is a failure.
abbrev pub reads : Held → List (List ℕ) → Outcome (List (List ℕ))
reads held [] = Wishes [] held Deactivate
reads held (line ∷ left) =
    if nat_lt TEXT_LIMIT (length line) then Fails (line ∷ left) held (TextLimit (length line)) else Wishes left (with_made held Normal line) (send_first (next_id held))

-- Told to start, or that its line was sent, it reads the next line.
abbrev pub ReadLinesNext : List (List ℕ) → Held → Answer → Outcome (List (List ℕ)) → Type 0
ReadLinesNext left held answer outcome = outcome ≡ reads held left

-- It is started and told that its line was sent, each time with empty hands.
abbrev pub ReadLinesReady : List (List ℕ) → Held → Answer → Type 0
ReadLinesReady left held answers.Start = held.packets ≡ []
ReadLinesReady left held (answers.Got id) = ⊥
ReadLinesReady left held answers.End = ⊥
ReadLinesReady left held answers.Sent = held.packets ≡ []
ReadLinesReady left held (answers.Level n) = ⊥

-- All that a network knows of it.
abbrev pub read_lines_rules : Rules (List (List ℕ))
read_lines_rules = record { shape = λ _. none_to_one; uses = λ _. uses_first; ready = ReadLinesReady; next = ReadLinesNext }
