-- The component that sends a copy of each packet to each of its outputs.
use Rattle.std.specs.Prelude.{◌≡◌, ℕ, ◌+◌, ◌<◌, ◌≤◌, Bool, [], nat_lt, if◌then◌else◌}
use Rattle.flow_packet.specs.Hands.{kind_at, text_at}
use Rattle.flow_packet.specs.Held.{Held, next_id, with_made}
use Rattle.flow_component.specs.declared.Answer.{Answer}
use Rattle.flow_component.specs.declared.Answer.TheVariants as answers
use Rattle.flow_component.specs.declared.Shape.{Shape}
use Rattle.flow_component.specs.declared.Wish.{Wish}
use Rattle.flow_component.specs.declared.Wish.TheVariants.{Send, Deactivate}
use Rattle.flow_component.specs.Laws.{Rules, Outcome, Wishes}
use Rattle.flow_component.specs.Ports.{receive_first}
use Rattle.flow_component.specs.Alone.{HoldsOnly}
use Rattle.flow_streams.specs.declared.copy.CopyPlace.{CopyPlace}
use Rattle.flow_streams.specs.declared.copy.CopyPlace.TheVariants.{Waiting, Copying}

-- How many outputs it has, and where it stands.
pub record CopyState : Type 0 where
  pub count : ℕ
  pub place : CopyPlace

-- The wish to send to an output.
abbrev pub send_at : ℕ → ℕ → Wish
send_at output id = Send (record { 0 = output }) id

-- A packet of the same kind and text goes to the output, and the packet itself to the last one.
abbrev pub copies : CopyState → Held → ℕ → ℕ → Outcome CopyState
copies state held id output =
    if nat_lt (output + 1) state.count then Wishes (record state { place = Copying id (output + 1) }) (with_made held (kind_at held.packets id) (text_at held.packets id)) (send_at output (next_id held))
    else Wishes (record state { place = Waiting }) held (send_at output id)

-- What comes after a packet was sent.
abbrev pub goes_on : CopyState → Held → CopyPlace → Outcome CopyState
goes_on state held Waiting = Wishes state held receive_first
goes_on state held (Copying id output) = copies state held id output

-- The rule, by what it is told.
abbrev pub copy_next : CopyState → Held → Answer → Outcome CopyState
copy_next state held answers.Start = Wishes state held receive_first
copy_next state held (answers.Got id) = copies state held id 0
copy_next state held answers.End = Wishes state held Deactivate
copy_next state held answers.Sent = goes_on state held state.place
copy_next state held (answers.Level n) = Wishes state held Deactivate

-- It comes to this alone.
abbrev pub CopyNext : CopyState → Held → Answer → Outcome CopyState → Type 0
CopyNext state held answer outcome = outcome ≡ copy_next state held answer

-- One input, and the outputs that it was made for.
abbrev pub copy_shape : CopyState → Shape
copy_shape state = record { inputs = 1; outputs = state.count }

-- All outputs are used.
abbrev pub copy_uses : CopyState → ℕ → Bool
copy_uses state port = nat_lt port state.count

-- Between packets the hands are empty, and a packet that is copied is alone in them.
abbrev pub IsReadyOn : CopyState → Held → CopyPlace → Type 0
IsReadyOn state held Waiting = held.packets ≡ []
IsReadyOn state held (Copying id output) = HoldsOnly held id × (output < state.count)

-- What it can be told.
abbrev pub CopyReady : CopyState → Held → Answer → Type 0
CopyReady state held answers.Start = (1 ≤ state.count) × (state.place ≡ Waiting) × (held.packets ≡ [])
CopyReady state held (answers.Got id) = (1 ≤ state.count) × (state.place ≡ Waiting) × HoldsOnly held id
CopyReady state held answers.End = (1 ≤ state.count) × (state.place ≡ Waiting) × (held.packets ≡ [])
CopyReady state held answers.Sent = (1 ≤ state.count) × IsReadyOn state held state.place
CopyReady state held (answers.Level n) = ⊥

-- All that a network knows of it.
abbrev pub copy_rules : Rules CopyState
copy_rules = record { shape = copy_shape; uses = copy_uses; ready = CopyReady; next = CopyNext }
