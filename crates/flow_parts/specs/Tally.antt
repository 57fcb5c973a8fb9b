-- A component that tells how often a text came in a row.
use Rattle.flow_limits.specs.declared.TheConstants.{TEXT_LIMIT}
use Rattle.std.specs.Prelude.{◌≡◌, ℕ, ◌+◌, zero, suc, List, [], ◌∷◌, ◌++◌, length, min, nat_le, if◌then◌else◌, ◌-◌, ◌^◌}
use Rattle.std.specs.Fmt.{decimal}
use Rattle.std.specs.Str.{bytes_eq}
use Rattle.flow_packet.specs.declared.packet.Kind.{Kind}
use Rattle.flow_packet.specs.declared.packet.Kind.TheVariants.{Normal, Open, Close}
use Rattle.flow_packet.specs.Hands.{text_at, kind_at}
use Rattle.flow_component.specs.declared.Answer.{Answer}
use Rattle.flow_component.specs.declared.Answer.TheVariants as answers
use Rattle.flow_component.specs.declared.Fail.TheVariants.{TextLimit}
use Rattle.flow_component.specs.declared.Wish.TheVariants.{Deactivate}
use Rattle.flow_packet.specs.Held.{Held, next_id, without_packet, with_made}
use Rattle.flow_component.specs.Laws.{Rules, Outcome, Wishes, Fails}
use Rattle.flow_component.specs.Alone.{HoldsOnly}
use Rattle.flow_parts.specs.declared.tally.TallyPlace.{TallyPlace}
use Rattle.flow_parts.specs.declared.tally.TallyPlace.TheVariants.{Waiting, Passing, Leaving}
use Rattle.flow_component.specs.Ports.{one_to_one, uses_first, receive_first, send_first}
use Rattle.flow_parts.specs.TallyState.{TallyState}

-- What is told of a row: how many packets it has, a space, and their text.
abbrev pub tally_line : ℕ → List ℕ → List ℕ
tally_line times text = decimal times ++ 32 ∷ text

-- One packet more in the row. The number stands still at its greatest value.
abbrev pub one_more_time : ℕ → ℕ
one_more_time n = min (n + 1) (2 ^ 64 - 1)

-- It tells of the row in hand, where that isn't too long for a packet, and has this one then: so many packets of this text.
abbrev pub row_told : TallyState → Held → Held → List ℕ → ℕ → List ℕ → TallyPlace → Outcome TallyState
row_told state held left line times text place =
    if nat_le (length line) TEXT_LIMIT then Wishes (record { times = times; text = text; place = place }) (with_made left Normal line) (send_first (next_id left)) else Fails state held (TextLimit (length line))

-- Where the text comes behind a row of so many packets: without a row it begins one, the same text makes the row longer, and another has the row told and begins the next.
abbrev pub text_comes : TallyState → Held → ℕ → ℕ → List ℕ → Outcome TallyState
text_comes state held id zero text = Wishes (record state { times = 1; text = text }) (without_packet held id) receive_first
text_comes state held id (suc n) text =
    if bytes_eq text state.text then Wishes (record state { times = one_more_time (suc n) }) (without_packet held id) receive_first else row_told state held (without_packet held id) (tally_line (suc n) state.text) 1 text Waiting

-- A row is told before a bracket.
abbrev pub mark_comes : TallyState → Held → ℕ → ℕ → Outcome TallyState
mark_comes state held id zero = Wishes state held (send_first id)
mark_comes state held id (suc n) = row_told state held held (tally_line (suc n) state.text) 0 [] (Passing id)

-- A row is told before the end.
abbrev pub close_comes : TallyState → Held → ℕ → Outcome TallyState
close_comes state held zero = Wishes state held Deactivate
close_comes state held (suc n) = row_told state held held (tally_line (suc n) state.text) 0 [] Leaving

-- What comes after a packet was sent.
abbrev pub goes_on : TallyState → Held → TallyPlace → Outcome TallyState
goes_on state held Waiting = Wishes state held receive_first
goes_on state held (Passing id) = Wishes (record state { place = Waiting }) held (send_first id)
goes_on state held Leaving = Wishes (record state { place = Waiting }) held Deactivate

-- A Normal packet is dropped, and its text stands in a row.
abbrev pub one_comes : TallyState → Held → ℕ → Kind → Outcome TallyState
one_comes state held id Normal = text_comes state held id state.times (text_at held.packets id)
one_comes state held id Open = mark_comes state held id state.times
one_comes state held id Close = mark_comes state held id state.times

-- The rule, by what it is told.
abbrev pub tally_next : TallyState → Held → Answer → Outcome TallyState
tally_next state held answers.Start = Wishes state held receive_first
tally_next state held (answers.Got id) = one_comes state held id (kind_at held.packets id)
tally_next state held answers.End = close_comes state held state.times
tally_next state held answers.Sent = goes_on state held state.place
tally_next state held (answers.Level n) = Wishes state held receive_first

-- The rule as a relation.
abbrev pub TallyNext : TallyState → Held → Answer → Outcome TallyState → Type 0
TallyNext state held answer outcome = outcome ≡ tally_next state held answer

-- Between packets the hands are empty, and a bracket that waits for a row to be told is alone in them.
abbrev pub IsReadyOn : TallyState → Held → TallyPlace → Type 0
IsReadyOn state held Waiting = held.packets ≡ []
IsReadyOn state held (Passing id) = HoldsOnly held id × (state.times ≡ 0)
IsReadyOn state held Leaving = (held.packets ≡ []) × (state.times ≡ 0)

-- What it can be told.
abbrev pub TallyReady : TallyState → Held → Answer → Type 0
TallyReady state held answers.Start = (state.place ≡ Waiting) × (held.packets ≡ [])
TallyReady state held (answers.Got id) = (state.place ≡ Waiting) × HoldsOnly held id
TallyReady state held answers.End = (state.place ≡ Waiting) × (held.packets ≡ [])
TallyReady state held answers.Sent = IsReadyOn state held state.place
TallyReady state held (answers.Level n) = ⊥

-- All that a network knows of it.
abbrev pub tally_rules : Rules TallyState
tally_rules = record { shape = λ _. one_to_one; uses = λ _. uses_first; ready = TallyReady; next = TallyNext }
