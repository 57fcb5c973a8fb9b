-- The component that makes brackets of packets.
use Rattle.std.specs.Prelude.{◌≡◌, ℕ, ◌==◌, List, [], ◌∷◌, Option, Some, None, if◌then◌else◌, length, slice_range}
use Rattle.flow_packet.specs.declared.packet.Kind.{Kind}
use Rattle.flow_packet.specs.declared.packet.Kind.TheVariants.{Normal, Open, Close}
use Rattle.flow_packet.specs.Hands.{text_at, kind_at}
use Rattle.flow_packet.specs.Held.{Held, next_id, without_packet, with_made}
use Rattle.flow_component.specs.declared.Answer.{Answer}
use Rattle.flow_component.specs.declared.Answer.TheVariants as answers
use Rattle.flow_component.specs.declared.Wish.TheVariants.{Deactivate}
use Rattle.flow_component.specs.Laws.{Rules, Outcome, Wishes}
use Rattle.flow_component.specs.Ports.{one_to_one, uses_first, receive_first, send_first}
use Rattle.flow_component.specs.Alone.{HoldsOnly}

-- The bracket that a text names by its first byte, if it does.
abbrev pub bracket_of : List ℕ → Option Kind
bracket_of [] = None
bracket_of (b ∷ bs) = if b == 40 then Some Open else (if b == 41 then Some Close else None)

-- A packet is passed on, or in its place a bracket with the rest of its text.
abbrev pub turns : {K : Type 0} → K → Held → ℕ → List ℕ → Option Kind → Outcome K
turns component held id text None = Wishes component held (send_first id)
turns component held id text (Some kind) = Wishes component (without_packet (with_made held kind (slice_range text 1 (length text))) id) (send_first (next_id held))

-- What comes of a packet, by its kind.
abbrev pub takes : {K : Type 0} → K → Held → ℕ → Kind → Outcome K
takes component held id Normal = turns component held id (text_at held.packets id) (bracket_of (text_at held.packets id))
takes component held id Open = Wishes component held (send_first id)
takes component held id Close = Wishes component held (send_first id)

-- The rule: each packet is passed on, a normal one whose text names a bracket as that bracket.
abbrev pub brackets_next : {K : Type 0} → K → Held → Answer → Outcome K
brackets_next component held answers.Start = Wishes component held receive_first
brackets_next component held (answers.Got id) = takes component held id (kind_at held.packets id)
brackets_next component held answers.End = Wishes component held Deactivate
brackets_next component held answers.Sent = Wishes component held receive_first
brackets_next component held (answers.Level n) = Wishes component held receive_first

-- It comes to this alone.
abbrev pub BracketsNext : {K : Type 0} → K → Held → Answer → Outcome K → Type 0
BracketsNext component held answer outcome = outcome ≡ brackets_next component held answer

-- Between packets its hands are empty.
abbrev pub BracketsReady : {K : Type 0} → K → Held → Answer → Type 0
BracketsReady component held answers.Start = held.packets ≡ []
BracketsReady component held (answers.Got id) = HoldsOnly held id
BracketsReady component held answers.End = held.packets ≡ []
BracketsReady component held answers.Sent = held.packets ≡ []
BracketsReady component held (answers.Level n) = ⊥

-- All that a network knows of it.
abbrev pub brackets_rules : {K : Type 0} → Rules K
brackets_rules = record { shape = λ _. one_to_one; uses = λ _. uses_first; ready = BracketsReady; next = BracketsNext }
