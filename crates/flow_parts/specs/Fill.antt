-- A component that fills lines with words.
use Rattle.std.specs.Prelude.{◌≡◌, ℕ, ◌+◌, List, [], ◌∷◌, ◌++◌, length, nat_le, if◌then◌else◌}
use Rattle.flow_packet.specs.declared.packet.Kind.{Kind}
use Rattle.flow_packet.specs.declared.packet.Kind.TheVariants.{Normal, Open, Close}
use Rattle.flow_packet.specs.Hands.{text_at, kind_at}
use Rattle.flow_component.specs.declared.Answer.{Answer}
use Rattle.flow_component.specs.declared.Answer.TheVariants as answers
use Rattle.flow_component.specs.declared.Wish.TheVariants.{Deactivate}
use Rattle.flow_packet.specs.Held.{Held, next_id, without_packet, with_made}
use Rattle.flow_component.specs.Laws.{Rules, Outcome, Wishes}
use Rattle.flow_component.specs.Alone.{HoldsOnly}
use Rattle.flow_parts.specs.declared.fill.FillPlace.{FillPlace}
use Rattle.flow_parts.specs.declared.fill.FillPlace.TheVariants.{Waiting, Passing, Leaving}
use Rattle.flow_component.specs.Ports.{one_to_one, uses_first, receive_first, send_first}
use Rattle.flow_parts.specs.FillState.{FillState}

-- It sends its line, and has this one then.
abbrev pub line_sent : FillState → Held → List ℕ → FillPlace → Outcome FillState
line_sent state held line place = Wishes (record state { line = line; place = place }) (with_made held Normal state.line) (send_first (next_id held))

-- A word goes to the line's end where it fits, and begins the next line otherwise.
abbrev pub word_after : FillState → Held → List ℕ → List ℕ → Outcome FillState
word_after state held [] word = Wishes (record state { line = word }) held receive_first
word_after state held (c ∷ cs) word =
    if nat_le (length (c ∷ cs) + 1 + length word) state.size then Wishes (record state { line = (c ∷ cs) ++ 32 ∷ word }) held receive_first else line_sent state held word Waiting

-- An empty text adds nothing.
abbrev pub word_comes : FillState → Held → List ℕ → Outcome FillState
word_comes state held [] = Wishes state held receive_first
word_comes state held (b ∷ bs) = word_after state held state.line (b ∷ bs)

-- A line is sent before a bracket.
abbrev pub bracket_comes : FillState → Held → ℕ → List ℕ → Outcome FillState
bracket_comes state held id [] = Wishes state held (send_first id)
bracket_comes state held id (c ∷ cs) = line_sent state held [] (Passing id)

-- A line is sent before the end.
abbrev pub end_comes : FillState → Held → List ℕ → Outcome FillState
end_comes state held [] = Wishes state held Deactivate
end_comes state held (c ∷ cs) = line_sent state held [] Leaving

-- What comes after a packet was sent.
abbrev pub goes_on : FillState → Held → FillPlace → Outcome FillState
goes_on state held Waiting = Wishes state held receive_first
goes_on state held (Passing id) = Wishes (record state { place = Waiting }) held (send_first id)
goes_on state held Leaving = Wishes (record state { place = Waiting }) held Deactivate

-- A Normal packet is dropped, and its text is a word.
abbrev pub packet_comes : FillState → Held → ℕ → Kind → Outcome FillState
packet_comes state held id Normal = word_comes state (without_packet held id) (text_at held.packets id)
packet_comes state held id Open = bracket_comes state held id state.line
packet_comes state held id Close = bracket_comes state held id state.line

-- The rule, by what it is told.
abbrev pub fill_next : FillState → Held → Answer → Outcome FillState
fill_next state held answers.Start = Wishes state held receive_first
fill_next state held (answers.Got id) = packet_comes state held id (kind_at held.packets id)
fill_next state held answers.End = end_comes state held state.line
fill_next state held answers.Sent = goes_on state held state.place
fill_next state held (answers.Level n) = Wishes state held receive_first

-- The rule as a relation.
abbrev pub FillNext : FillState → Held → Answer → Outcome FillState → Type 0
FillNext state held answer outcome = outcome ≡ fill_next state held answer

-- Between packets the hands are empty, and a bracket that waits for a line is alone in them.
abbrev pub IsReadyOn : FillState → Held → FillPlace → Type 0
IsReadyOn state held Waiting = held.packets ≡ []
IsReadyOn state held (Passing id) = HoldsOnly held id × (state.line ≡ [])
IsReadyOn state held Leaving = (held.packets ≡ []) × (state.line ≡ [])

-- What it can be told.
abbrev pub FillReady : FillState → Held → Answer → Type 0
FillReady state held answers.Start = (state.place ≡ Waiting) × (held.packets ≡ [])
FillReady state held (answers.Got id) = (state.place ≡ Waiting) × HoldsOnly held id
FillReady state held answers.End = (state.place ≡ Waiting) × (held.packets ≡ [])
FillReady state held answers.Sent = IsReadyOn state held state.place
FillReady state held (answers.Level n) = ⊥

-- All that a network knows of it.
abbrev pub fill_rules : Rules FillState
fill_rules = record { shape = λ _. one_to_one; uses = λ _. uses_first; ready = FillReady; next = FillNext }
