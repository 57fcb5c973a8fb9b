-- The component that sends the words of each packet.
use Rattle.std.specs.Prelude.{◌≡◌, ℕ, ◌≤◌, List, [], length, nat_lt, slice_range, if◌then◌else◌}
use Rattle.flow_packet.specs.declared.packet.Kind.{Kind}
use Rattle.flow_packet.specs.declared.packet.Kind.TheVariants.{Normal, Open, Close}
use Rattle.flow_packet.specs.Hands.{text_at, kind_at}
use Rattle.flow_packet.specs.Held.{Held, next_id, without_packet, with_made}
use Rattle.flow_component.specs.declared.Answer.{Answer}
use Rattle.flow_component.specs.declared.Answer.TheVariants as answers
use Rattle.flow_component.specs.declared.Wish.TheVariants.{Deactivate}
use Rattle.flow_component.specs.Laws.{Rules, Outcome, Wishes}
use Rattle.flow_component.specs.Ports.{one_to_one, uses_first, receive_first, send_first}
use Rattle.flow_component.specs.Alone.{HoldsOnly}
use Rattle.flow_parts.specs.declared.words.Words.{Words}
use Rattle.flow_parts.specs.declared.words.Words.TheVariants.{Waiting, Splitting}
use Rattle.flow_parts.specs.Text.{word_start, word_end}

-- It sends the next word of the packet, or drops the packet where there is none.
abbrev pub sends_piece : Held → ℕ → List ℕ → ℕ → Outcome Words
sends_piece held id text taken =
    if nat_lt (word_start text taken) (length text)
    then Wishes (Splitting id (word_end text taken)) (with_made held Normal (slice_range text (word_start text taken) (word_end text taken))) (send_first (next_id held))
    else Wishes Waiting (without_packet held id) receive_first

-- It sends the next word of the packet that it splits, or is done with it.
abbrev pub sends_next : Held → ℕ → ℕ → Outcome Words
sends_next held id taken = sends_piece held id (text_at held.packets id) taken

-- A Normal packet is sent word by word; a bracket is passed on.
abbrev pub takes : Held → ℕ → Kind → Outcome Words
takes held id Normal = sends_next held id 0
takes held id Open = Wishes Waiting held (send_first id)
takes held id Close = Wishes Waiting held (send_first id)

-- What comes after a packet was sent.
abbrev pub goes_on : Held → Words → Outcome Words
goes_on held Waiting = Wishes Waiting held receive_first
goes_on held (Splitting id taken) = sends_next held id taken

-- The rule, by what it is told.
abbrev pub words_next : Words → Held → Answer → Outcome Words
words_next component held answers.Start = Wishes Waiting held receive_first
words_next component held (answers.Got id) = takes held id (kind_at held.packets id)
words_next component held answers.End = Wishes Waiting held Deactivate
words_next component held answers.Sent = goes_on held component
words_next component held (answers.Level n) = Wishes Waiting held receive_first

-- It comes to this alone.
abbrev pub WordsNext : Words → Held → Answer → Outcome Words → Type 0
WordsNext component held answer outcome = outcome ≡ words_next component held answer

-- It splits no packet.
abbrev pub IsWaiting : Words → Type 0
IsWaiting Waiting = Unit {0}
IsWaiting (Splitting id taken) = ⊥

-- Between packets the hands are empty, and a packet that is being split is alone in them.
abbrev pub IsReadyOn : Held → Words → Type 0
IsReadyOn held Waiting = held.packets ≡ []
IsReadyOn held (Splitting id taken) = HoldsOnly held id × (taken ≤ length (text_at held.packets id)) × (kind_at held.packets id ≡ Normal)

-- What it can be told.
abbrev pub WordsReady : Words → Held → Answer → Type 0
WordsReady component held answers.Start = IsWaiting component × (held.packets ≡ [])
WordsReady component held (answers.Got id) = IsWaiting component × HoldsOnly held id
WordsReady component held answers.End = IsWaiting component × (held.packets ≡ [])
WordsReady component held answers.Sent = IsReadyOn held component
WordsReady component held (answers.Level n) = ⊥

-- All that a network knows of it.
abbrev pub words_rules : Rules Words
words_rules = record { shape = λ _. one_to_one; uses = λ _. uses_first; ready = WordsReady; next = WordsNext }
