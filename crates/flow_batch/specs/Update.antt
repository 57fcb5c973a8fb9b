-- The component that updates masters by details: its rule, and what it is ready for. (Morrison's update of a sorted master file; the rule
-- is this project's own.)
use Rattle.std.specs.Prelude.{◌≡◌, ℕ, ◌==◌, Bool, true, false, List, [], if◌then◌else◌, Option, Some, None}
use Rattle.flow_packet.specs.declared.packet.Kind.{Kind}
use Rattle.flow_packet.specs.declared.packet.Kind.TheVariants.{Normal, Open, Close}
use Rattle.flow_packet.specs.Hands.{kind_at, text_at}
use Rattle.flow_packet.specs.Held.{Held, next_id, without_packet, with_made}
use Rattle.flow_component.specs.declared.Answer.{Answer}
use Rattle.flow_component.specs.declared.Answer.TheVariants as answers
use Rattle.flow_component.specs.declared.Fail.TheVariants.{BracketIn}
use Rattle.flow_component.specs.declared.Port.{Port}
use Rattle.flow_component.specs.declared.Shape.{Shape}
use Rattle.flow_component.specs.declared.Wish.TheVariants.{Send, Deactivate}
use Rattle.flow_component.specs.Laws.{Rules, Outcome, Wishes, Fails}
use Rattle.flow_component.specs.Ports.{first_port, receive_first, send_first}
use Rattle.flow_component.specs.Alone.{HoldsOnly}
use Rattle.flow_batch.specs.Records.{posted}
use Rattle.flow_batch.specs.declared.records.Posting.{Posting}
use Rattle.flow_batch.specs.declared.records.Posting.TheVariants.{Applied, Refused}
use Rattle.flow_batch.specs.Ledger.{line_of}
use Rattle.flow_batch.specs.Around.{Around, Outside, InGroup, UpdateState}

-- The output for what is refused is the second one.
abbrev pub second_port : Port
second_port = record { 0 = 1 }

-- What is refused is passed on where the second output is connected, and dropped otherwise.
abbrev pub refuses : Bool → UpdateState → Held → ℕ → Outcome UpdateState
refuses true state held id = Wishes state held (Send second_port id)
refuses false state held id = Wishes state (without_packet held id) receive_first

-- The packet is dropped, and it stands here then.
abbrev pub drops : UpdateState → Held → ℕ → Around → Outcome UpdateState
drops state held id around = Wishes (record state { around = around }) (without_packet held id) receive_first

-- A record that is applied is dropped.
abbrev pub posts : UpdateState → Held → ℕ → List ℕ → Posting → Outcome UpdateState
posts state held id key (Applied balance) = drops state held id (InGroup key balance)
posts state held id key Refused = refuses state.rep state held id

-- At the end of a group its bracket is dropped, and a new master is made of the balance, if there is one.
abbrev pub closes : UpdateState → Held → ℕ → List ℕ → Option ℕ → Outcome UpdateState
closes state held id key None = drops state held id Outside
closes state held id key (Some amount) = Wishes (record state { around = Outside }) (with_made (without_packet held id) Normal (line_of (key, amount))) (send_first (next_id held))

-- An Open packet begins the group of its text. Records meet the balance of their group, and are refused outside of all groups. Groups don't stand in groups.
abbrev pub comes : UpdateState → Held → ℕ → Around → Kind → Outcome UpdateState
comes state held id Outside Normal = refuses state.rep state held id
comes state held id Outside Open = drops state held id (InGroup (text_at held.packets id) None)
comes state held id Outside Close = Fails state held (BracketIn first_port)
comes state held id (InGroup key balance) Normal = posts state held id key (posted state.keylen key balance (text_at held.packets id))
comes state held id (InGroup key balance) Open = Fails state held (BracketIn first_port)
comes state held id (InGroup key balance) Close = closes state held id key balance

-- The rule, by what it is told.
abbrev pub update_next : UpdateState → Held → Answer → Outcome UpdateState
update_next state held answers.Start = Wishes state held receive_first
update_next state held (answers.Got id) = comes state held id state.around (kind_at held.packets id)
update_next state held answers.End = Wishes state held Deactivate
update_next state held answers.Sent = Wishes state held receive_first
update_next state held (answers.Level n) = Wishes state held Deactivate

-- It comes to this alone.
abbrev pub UpdateNext : UpdateState → Held → Answer → Outcome UpdateState → Type 0
UpdateNext state held answer outcome = outcome ≡ update_next state held answer

-- One input and two outputs.
abbrev pub update_shape : Shape
update_shape = record { inputs = 1; outputs = 2 }

-- The first output is used always, the second where it is connected.
abbrev pub update_uses : UpdateState → ℕ → Bool
update_uses state port = if port == 1 then state.rep else port == 0

-- Between packets its hands are empty.
abbrev pub UpdateReady : UpdateState → Held → Answer → Type 0
UpdateReady state held answers.Start = held.packets ≡ []
UpdateReady state held (answers.Got id) = HoldsOnly held id
UpdateReady state held answers.End = held.packets ≡ []
UpdateReady state held answers.Sent = held.packets ≡ []
UpdateReady state held (answers.Level n) = ⊥

-- All that a network knows of it.
abbrev pub update_rules : Rules UpdateState
update_rules = record { shape = λ _. update_shape; uses = update_uses; ready = UpdateReady; next = UpdateNext }
