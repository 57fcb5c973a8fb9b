-- The component that balances the load of its outputs: its state, its rule, and what it is ready for.
use Rattle.std.specs.Prelude.{◌≡◌, ℕ, ◌+◌, ◌-◌, ◌^◌, ◌<◌, Bool, [], min, zero, suc, nat_lt, if◌then◌else◌}
use Rattle.flow_packet.specs.declared.packet.Kind.{Kind}
use Rattle.flow_packet.specs.declared.packet.Kind.TheVariants.{Normal, Open, Close}
use Rattle.flow_packet.specs.Hands.{kind_at}
use Rattle.flow_packet.specs.Held.{Held}
use Rattle.flow_component.specs.declared.Answer.{Answer}
use Rattle.flow_component.specs.declared.Answer.TheVariants as answers
use Rattle.flow_component.specs.declared.Shape.{Shape}
use Rattle.flow_component.specs.declared.Wish.{Wish}
use Rattle.flow_component.specs.declared.Wish.TheVariants.{Send, Level, Deactivate}
use Rattle.flow_component.specs.Laws.{Rules, Outcome, Wishes}
use Rattle.flow_component.specs.Ports.{receive_first}
use Rattle.flow_component.specs.Alone.{HoldsOnly}
use Rattle.flow_streams.specs.declared.load_balance.LoadPlace.{LoadPlace}
use Rattle.flow_streams.specs.declared.load_balance.LoadPlace.TheVariants.{Waiting, Asking}

-- How many outputs it has, how many brackets are open in what it received, the output that was chosen last, and where it stands.
pub record LoadState : Type 0 where
  pub count : ℕ
  pub depth : ℕ
  pub chosen : ℕ
  pub place : LoadPlace

-- The wish to send to an output.
abbrev pub send_at : ℕ → ℕ → Wish
send_at output id = Send (record { 0 = output }) id

-- The wish to learn how full an output is.
abbrev pub level_at : ℕ → Wish
level_at output = Level (record { 0 = output })

-- How many brackets are open behind a packet of this kind. The depth stands still at its greatest value.
abbrev pub depth_after : Kind → ℕ → ℕ
depth_after Normal depth = depth
depth_after Open depth = min (depth + 1) (2 ^ 64 - 1)
depth_after Close depth = depth - 1

-- More than any level is.
abbrev pub no_level : ℕ
no_level = 65536

-- A packet outside of all brackets: the levels of the outputs are asked, from the first one on. A packet inside goes where the substream's first packet went.
abbrev pub comes_at : LoadState → Held → ℕ → ℕ → Outcome LoadState
comes_at state held id zero = Wishes (record state { place = Asking id 0 no_level }) held (level_at 0)
comes_at state held id (suc outer) = Wishes state held (send_at state.chosen id)

-- What comes of a packet, by its kind.
abbrev pub comes : LoadState → Held → ℕ → Kind → Outcome LoadState
comes state held id kind = comes_at (record state { depth = depth_after kind state.depth }) held id state.depth

-- The next output is asked, or the packet is sent to the chosen one.
abbrev pub asks_on : LoadState → Held → ℕ → ℕ → ℕ → Outcome LoadState
asks_on state held id output least =
    if nat_lt (output + 1) state.count then Wishes (record state { place = Asking id (output + 1) least }) held (level_at (output + 1))
    else Wishes (record state { place = Waiting }) held (send_at state.chosen id)

-- The level of an output was told. It is chosen where its level is less than all that were told before, so that of equals the first is.
abbrev pub weighs : LoadState → Held → ℕ → ℕ → ℕ → ℕ → Outcome LoadState
weighs state held id output least level =
    if nat_lt level least then asks_on (record state { chosen = output }) held id output level
    else asks_on state held id output least

-- What comes of a level.
abbrev pub learns : LoadState → Held → LoadPlace → ℕ → Outcome LoadState
learns state held Waiting level = Wishes state held Deactivate
learns state held (Asking id output least) level = weighs state held id output least level

-- The rule, by what it is told.
abbrev pub load_next : LoadState → Held → Answer → Outcome LoadState
load_next state held answers.Start = Wishes state held receive_first
load_next state held (answers.Got id) = comes state held id (kind_at held.packets id)
load_next state held answers.End = Wishes state held Deactivate
load_next state held answers.Sent = Wishes state held receive_first
load_next state held (answers.Level level) = learns state held state.place level

-- It comes to this alone.
abbrev pub LoadNext : LoadState → Held → Answer → Outcome LoadState → Type 0
LoadNext state held answer outcome = outcome ≡ load_next state held answer

-- One input, and the outputs that it was made for.
abbrev pub load_shape : LoadState → Shape
load_shape state = record { inputs = 1; outputs = state.count }

-- All outputs are used.
abbrev pub load_uses : LoadState → ℕ → Bool
load_uses state port = nat_lt port state.count

-- A packet for which levels are asked is alone in the hands.
abbrev pub IsAsking : LoadState → Held → LoadPlace → Type 0
IsAsking state held Waiting = ⊥
IsAsking state held (Asking id output least) = HoldsOnly held id × (output < state.count)

-- Between packets the hands are empty. The chosen output is one that there is.
abbrev pub LoadReady : LoadState → Held → Answer → Type 0
LoadReady state held answers.Start = (state.chosen < state.count) × (state.place ≡ Waiting) × (held.packets ≡ [])
LoadReady state held (answers.Got id) = (state.chosen < state.count) × (state.place ≡ Waiting) × HoldsOnly held id
LoadReady state held answers.End = (state.chosen < state.count) × (state.place ≡ Waiting) × (held.packets ≡ [])
LoadReady state held answers.Sent = (state.chosen < state.count) × (state.place ≡ Waiting) × (held.packets ≡ [])
LoadReady state held (answers.Level level) = (state.chosen < state.count) × IsAsking state held state.place

-- All that a network knows of it.
abbrev pub load_rules : Rules LoadState
load_rules = record { shape = load_shape; uses = load_uses; ready = LoadReady; next = LoadNext }
